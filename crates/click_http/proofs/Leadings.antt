-- Lemmas on sequences of calls that follow one another.
use Rattle.std.proofs.Common.{◌≡◌, ℕ, List, [], ◌∷◌, ◌++◌, refl, sym, subst, append-nil}
use Rattle.std.proofs.lemmas.Grind.{flat_map-append}
use Rattle.std.proofs.lemmas.List.Elements.{All-nil, All-cons, All-append}
use Rattle.http.specs.declared.request.Request.{Request}
use Rattle.http_server.specs.declared.connection.Connection.{Connection}
use Rattle.http_server.specs.declared.response.Response.{Response}
use Rattle.http_server.specs.Connection.{config_of, history}
use Rattle.http_server.specs.Exchange.{Call, Chain, Calls}
use Rattle.http_server.specs.declared.state.Config.{Config}
use Rattle.http_server.specs.History.{IsServed}
use Rattle.http_server.proofs.StreamLemmas.{Chain-append}
use Rattle.http_server.proofs.Theorems.{always_served}
use Rattle.click_http.specs.Leading.{page_config, Stretch, IsStretch, calls_of, Leads}

module _ {S : Type 0} (answers : S → Request (List ℕ) → Response → S → Type 0) where
  -- no call was made
  pub leads_none : (a : S) → Leads answers a a
  leads_none a = record { stretches = []; each = All-nil IsStretch; chain = refl }

  -- one sequence of calls, and then another
  pub leads_then : (a b c : S) → Leads answers a b → Leads answers b c → Leads answers a c
  leads_then a b c x y = record {
    stretches = x.stretches ++ y.stretches;
    each = All-append IsStretch x.stretches y.stretches x.each y.each;
    chain = subst (λ (calls : List Call). Chain answers a calls c) (sym (flat_map-append (λ (s : Stretch). s.calls) x.stretches y.stretches))
        (Chain-append answers (calls_of x.stretches) (calls_of y.stretches) a b c x.chain y.chain);
  }

  -- the calls that a connection made
  pub leads_by : (earlier : List Call) (c : Connection) (a b : S) → config_of c ≡ page_config → Calls answers a b earlier (history c).calls → Leads answers a b
  leads_by earlier c a b limits made = record {
    stretches = record { earlier = earlier; calls = made.0; after = history c } ∷ [];
    each = All-cons IsStretch (record { earlier = earlier; calls = made.0; after = history c }) []
        (record { served = subst (λ (config : Config). ∥ IsServed config (history c) ∥₁) limits (always_served c); made = made.1 })
        (All-nil IsStretch);
    chain = subst (λ (calls : List Call). Chain answers a calls b) (sym (append-nil made.0)) made.2;
  }
