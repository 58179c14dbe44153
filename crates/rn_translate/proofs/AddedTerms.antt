-- Terms that are added one behind the other.
use Rattle.std.proofs.Common.{◌≡◌, Bool, List, [], ◌++◌, refl, sym, ap, ◌∙◌, subst, append_assoc, append-nil, Some}
use Rattle.std.specs.Prelude.{Result, OnOk}
use Rattle.std.proofs.lemmas.List.{map-append}
use Rattle.std.proofs.lemmas.Result.{on_ok_weaker}
use Rattle.rn_translate.specs.Terms.{Term}
use Rattle.rn_translate.specs.Layouts.{if_so}
use Rattle.rn_translate.specs.declared.translator.Translator.{Translator}
use Rattle.rn_translate.specs.inside.ElementsMeant.{IsInScope}
use Rattle.rn_translate.specs.inside.Meanings.{Adds, known, terms_meant}
use Rattle.rn_xml.specs.XmlTags.{Scope}

pub adds_none : (a : Translator) → Adds a a []
adds_none a = record { same = refl; terms = sym (append-nil (terms_meant a.uris a.terms.items)) }

pub adds_more : (a b c : Translator) (ts us : List Term) → Adds a b ts → Adds b c us → Adds a c (ts ++ us)
adds_more a b c ts us h k = record {
  same = k.same ∙ ap (λ (x : Translator). record x { terms = c.terms }) h.same;
  terms = k.terms ∙ ap (λ l. l ++ known us) h.terms ∙ append_assoc (terms_meant a.uris a.terms.items) (known ts) (known us)
      ∙ ap (λ l. terms_meant a.uris a.terms.items ++ l) (sym (map-append (λ (x : Term). Some x) ts us));
}

-- the same, where they are added if something is so
pub adds_if : (a b : Translator) (p q : Bool) (ts : List Term) → p ≡ q → Adds a b (if_so p ts) → Adds a b (if_so q ts)
adds_if a b p q ts e h = subst (λ r. Adds a b (if_so r ts)) e h

-- other words for the same terms
pub adds_equal : (a b : Translator) (ts us : List Term) → ts ≡ us → Adds a b ts → Adds a b us
adds_equal a b ts us e h = subst (λ l. Adds a b l) e h

pub ok_equal : {R E : Type 0} (r : Result R E) (a b : Translator) (ts us : List Term) → ts ≡ us → OnOk r (Adds a b ts) → OnOk r (Adds a b us)
ok_equal r a b ts us e h = on_ok_weaker r (adds_equal a b ts us e) h

-- the last call of several adds more
pub ok_more : {R E : Type 0} (r : Result R E) (a b c : Translator) (ts us : List Term) → Adds a b ts → OnOk r (Adds b c us) → OnOk r (Adds a c (ts ++ us))
ok_more r a b c ts us h more = on_ok_weaker r (adds_more a b c ts us h) more

-- ---- where terms are added, the rest means what it meant

pub scope_in : (a : Translator) (b : Translator) (s : Scope) → IsInScope a s → IsInScope (record a { terms = b.terms }) s
scope_in a b s is = record { knows = record { table = is.knows.table; has = is.knows.has; known = is.knows.known }; declared = is.declared }

pub in_scope_still : (a b : Translator) (ts : List Term) (s : Scope) → Adds a b ts → IsInScope a s → IsInScope b s
in_scope_still a b ts s h is = subst (λ (x : Translator). IsInScope x s) (sym h.same) (scope_in a b s is)
