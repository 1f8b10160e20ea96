-- The names of ports, protocols and types of ICMP messages (Click manual, "IPClassifier"; IANA).
use Rattle.std.specs.Prelude.{ℕ, List, true, false, [], ◌∷◌, map, codes, Option, Some, None, if◌then◌else◌}
use Rattle.std.specs.Borrow.{Bor}
use Rattle.std.specs.Str.{bytes_eq}
use Rattle.click_filter.specs.declared.test.Flag.TheVariants as flag
use Rattle.click_filter.specs.declared.test.Field.TheVariants as field
use Rattle.click_patterns.specs.declared.token.Join.TheVariants as join
use Rattle.click_patterns.specs.declared.token.Token.{Token}
use Rattle.click_patterns.specs.declared.token.Token.TheVariants as token

-- names with their numbers
abbrev pub Table : Type 0
Table = List (List ℕ × ℕ)

-- ports
abbrev pub ports : Table
ports =
    (codes "echo", 7) ∷ (codes "discard", 9) ∷ (codes "daytime", 13) ∷ (codes "chargen", 19) ∷ (codes "ftp-data", 20) ∷ (codes "ftp", 21) ∷
    (codes "ssh", 22) ∷ (codes "telnet", 23) ∷ (codes "smtp", 25) ∷ (codes "dns", 53) ∷ (codes "domain", 53) ∷ (codes "bootps", 67) ∷
    (codes "bootpc", 68) ∷ (codes "tftp", 69) ∷ (codes "finger", 79) ∷ (codes "http", 80) ∷ (codes "www", 80) ∷ (codes "pop3", 110) ∷
    (codes "sunrpc", 111) ∷ (codes "auth", 113) ∷ (codes "nntp", 119) ∷ (codes "ntp", 123) ∷ (codes "netbios-ns", 137) ∷ (codes "netbios-dgm", 138) ∷
    (codes "netbios-ssn", 139) ∷ (codes "snmp", 161) ∷ (codes "snmp-trap", 162) ∷ (codes "irc", 194) ∷ (codes "imap3", 220) ∷ (codes "https", 443) ∷
    (codes "rip", 520) ∷ (codes "route", 520) ∷ (codes "imaps", 993) ∷ (codes "pop3s", 995) ∷ []

-- protocols
abbrev pub protocols : Table
protocols =
    (codes "icmp", 1) ∷ (codes "igmp", 2) ∷ (codes "ipip", 4) ∷ (codes "tcp", 6) ∷ (codes "egp", 8) ∷ (codes "igp", 9) ∷ (codes "udp", 17) ∷
    (codes "dccp", 33) ∷ (codes "ipv6", 41) ∷ (codes "rsvp", 46) ∷ (codes "gre", 47) ∷ (codes "esp", 50) ∷ (codes "ah", 51) ∷ (codes "eigrp", 88) ∷
    (codes "ospf", 89) ∷ (codes "pim", 103) ∷ (codes "vrrp", 112) ∷ (codes "l2tp", 115) ∷ (codes "sctp", 132) ∷ (codes "udplite", 136) ∷ []

-- types of ICMP messages
abbrev pub icmp_types : Table
icmp_types =
    (codes "echo-reply", 0) ∷ (codes "unreachable", 3) ∷ (codes "sourcequench", 4) ∷ (codes "redirect", 5) ∷ (codes "echo", 8) ∷
    (codes "routeradvert", 9) ∷ (codes "routersolicit", 10) ∷ (codes "timex", 11) ∷ (codes "paramprob", 12) ∷ (codes "timestamp", 13) ∷
    (codes "timestamp-reply", 14) ∷ (codes "inforeq", 15) ∷ (codes "inforeply", 16) ∷ (codes "maskreq", 17) ∷ (codes "maskreply", 18) ∷ []

-- the number that a table has under this name
abbrev pub named : Table → List ℕ → Option ℕ
named [] word = None
named (row ∷ table) word = if bytes_eq row.0 word then Some row.1 else named table word

-- the rows of a table of the code
abbrev pub rows : List (Bor (List ℕ) × ℕ) → Table
rows table = map (λ row. (row.0.now, row.1)) table

-- the keywords; `-` is another spelling of `all`
abbrev pub keywords : List (List ℕ × Token)
keywords =
    (codes "and", token.Join join.And) ∷ (codes "or", token.Join join.Or) ∷ (codes "not", token.Not) ∷ (codes "all", token.Constant true) ∷
    (codes "any", token.Constant true) ∷ (codes "true", token.Constant true) ∷ (codes "-", token.Constant true) ∷
    (codes "none", token.Constant false) ∷ (codes "false", token.Constant false) ∷ (codes "src", token.Src) ∷ (codes "dst", token.Dst) ∷
    (codes "host", token.Host) ∷ (codes "net", token.Net) ∷ (codes "mask", token.Mask) ∷ (codes "tcp", token.Tcp) ∷ (codes "udp", token.Udp) ∷
    (codes "icmp", token.Icmp) ∷ (codes "ip", token.Ip) ∷ (codes "proto", token.Proto) ∷ (codes "port", token.Port) ∷ (codes "type", token.Type) ∷
    (codes "opt", token.Opt) ∷ (codes "frag", token.Frag) ∷ (codes "unfrag", token.Unfrag) ∷ (codes "fin", token.Flag flag.Fin) ∷
    (codes "syn", token.Flag flag.Syn) ∷ (codes "rst", token.Flag flag.Rst) ∷ (codes "psh", token.Flag flag.Psh) ∷
    (codes "ack", token.Flag flag.Ack) ∷ (codes "urg", token.Flag flag.Urg) ∷ (codes "vers", token.Field field.Version) ∷
    (codes "hl", token.Field field.HeaderLength) ∷ (codes "tos", token.Field field.Tos) ∷ (codes "dscp", token.Field field.Dscp) ∷
    (codes "ecn", token.Field field.Ecn) ∷ (codes "len", token.Field field.Length) ∷ (codes "id", token.Field field.Id) ∷
    (codes "ttl", token.Field field.Ttl) ∷ []

-- the token of a keyword in a table
abbrev pub keyword : List (List ℕ × Token) → List ℕ → Option Token
keyword [] word = None
keyword (row ∷ table) word = if bytes_eq row.0 word then Some row.1 else keyword table word

-- the rows of a table of the code
abbrev pub keyword_rows : List (Bor (List ℕ) × Token) → List (List ℕ × Token)
keyword_rows table = map (λ row. (row.0.now, row.1)) table
