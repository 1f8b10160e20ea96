-- Lemmas on the lines of replies, as a session writes them.
use Rattle.std.proofs.Common.{◌≡◌, ℕ, List, [], ◌++◌, append_assoc, sym, ap, ◌∙◌}
use Rattle.std.specs.Prelude.{codes}
use Rattle.click_router.specs.declared.check.Access.{Access}
use Rattle.click_router.specs.declared.check.Access.TheVariants as direction
use Rattle.click_control.specs.declared.command.Command.{Command}
use Rattle.click_control.specs.declared.command.Command.TheVariants as command
use Rattle.click_control.specs.declared.command.Answer.{Answer}
use Rattle.click_control.specs.ReplyText.{quoting, good_text, read_text, done_text, text_of}

-- text that is written in two steps, after room for both was reserved
regrouped : (text front name back rest : List ℕ) → (text ++ (front ++ (name ++ back))) ++ rest ≡ text ++ (front ++ (name ++ (back ++ rest)))
regrouped text front name back rest = simp append_assoc

pub joined : (text room front name back between rest : List ℕ) → room ≡ text → between ≡ room ++ (front ++ (name ++ back))
    → between ++ rest ≡ text ++ (front ++ (name ++ (back ++ rest)))
joined text room front name back between rest e f =
    ap (λ t. t ++ rest) (f ∙ ap (λ t. t ++ (front ++ (name ++ back))) e) ∙ regrouped text front name back rest

-- the quotes are part of the text that is written around the name
unquoted : (name quote back line_end rest : List ℕ) → (((name ++ quote) ++ back) ++ line_end) ++ rest ≡ name ++ (quote ++ (back ++ (line_end ++ rest)))
unquoted name quote back line_end rest = simp append_assoc

pub value_lines : (name digits bytes : List ℕ) → codes "200 Read handler '" ++ (name ++ (codes "' OK\r\nDATA " ++ (digits ++ (codes "\r\n" ++ bytes)))) ≡ quoting (codes "200 Read handler ") name (codes " OK") ++ (codes "DATA " ++ digits ++ codes "\r\n" ++ bytes)
value_lines name digits bytes =
    let value : List ℕ = codes "DATA " ++ digits ++ codes "\r\n" ++ bytes in
    ap (λ t. codes "200 Read handler '" ++ t) (ap (λ t. name ++ (codes "' OK\r\nDATA " ++ t)) (sym (append_assoc digits (codes "\r\n") bytes))
    ∙ sym (unquoted name (codes "'") (codes " OK") (codes "\r\n") value))

pub good_write : (name : List ℕ) → codes "200 Write handler '" ++ (name ++ codes "' OK\r\n") ≡ good_text direction.Write name
good_write name = simp append_assoc

-- if two answers give the same text for every command, they give the same text for a read
pub read_alike : (name : List ℕ) (a b : Answer) → ((c : Command) → text_of c a ≡ text_of c b) → read_text name a ≡ read_text name b
read_alike name a b e = e (command.Read name [])

pub done_alike : (w : Access) (name : List ℕ) (a b : Answer) → ((c : Command) → text_of c a ≡ text_of c b) → done_text w name a ≡ done_text w name b
done_alike direction.Read name a b e = e (command.CheckRead name)
done_alike direction.Write name a b e = e (command.CheckWrite name)
