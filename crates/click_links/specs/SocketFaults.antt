-- Which faults of a socket are temporary, so that its link has not failed.
use Rattle.std.specs.Prelude.{◌≡◌, ℤ, pos, ◌⊎◌, IsSomeAnd}
use Rattle.std.specs.IoError.{error_kind, raw_os_error}
use Rattle.std.specs.declared.io.Error.{Error}
use Rattle.std.specs.declared.io.ErrorKind.{ErrorKind}
use Rattle.std.specs.declared.io.ErrorKind.TheVariants.{WouldBlock, TimedOut, Interrupted, ConnectionRefused, ConnectionReset, HostUnreachable, NetworkUnreachable, NetworkDown}

-- The kind of a temporary fault: the time limit passed, the call was interrupted, the peer does not
-- listen, or the network does not reach it.
abbrev pub IsTemporaryKind : ErrorKind → Type 0
IsTemporaryKind kind =
    (kind ≡ WouldBlock) ⊎ (kind ≡ TimedOut) ⊎ (kind ≡ Interrupted) ⊎ (kind ≡ ConnectionRefused) ⊎ (kind ≡ ConnectionReset) ⊎ (kind ≡ HostUnreachable)
    ⊎ (kind ≡ NetworkUnreachable) ⊎ (kind ≡ NetworkDown)

-- Linux's error number of a temporary fault that has no kind of its own: ENOMEM, EPROTO, EMSGSIZE,
-- ENOPROTOOPT, ENOBUFS or EHOSTDOWN.
abbrev pub IsTemporaryNumber : ℤ → Type 0
IsTemporaryNumber number = (number ≡ pos 12) ⊎ (number ≡ pos 71) ⊎ (number ≡ pos 90) ⊎ (number ≡ pos 92) ⊎ (number ≡ pos 105) ⊎ (number ≡ pos 112)

-- The fault is temporary, by its kind or by its number.
abbrev pub IsTemporary : Error → Type 0
IsTemporary fault = IsTemporaryKind (error_kind fault) ⊎ IsSomeAnd (raw_os_error fault) IsTemporaryNumber
