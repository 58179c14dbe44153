-- Terms that are added while the declarations that prefixes mean change.
use Rattle.std.proofs.Common.{◌≡◌, Some, List, ◌++◌, sym, ap, ◌∙◌, subst, append_assoc}
use Rattle.std.proofs.lemmas.List.{map-append}
use Rattle.rn_translate.specs.Terms.{Term}
use Rattle.rn_translate.specs.inside.Meanings.{Adds, AddsInScope, known, terms_meant}
use Rattle.rn_translate.specs.declared.translator.Translator.{Translator}

-- an element ends behind its terms
pub scoped_after : (a b c : Translator) (ts : List Term) → Adds a b ts → c ≡ record b { scopes = c.scopes } → AddsInScope a c ts
scoped_after a b c ts h left =
    let kept : AddsInScope a (record b { scopes = c.scopes }) ts = record { same = ap (λ (t : Translator). record t { scopes = c.scopes }) h.same; terms = h.terms } in
    subst (λ t. AddsInScope a t ts) (sym left) kept

-- an element begins before its terms
pub scoped_before : (a b c : Translator) (ts : List Term) → b ≡ record a { scopes = b.scopes } → Adds b c ts → AddsInScope a c ts
scoped_before a b c ts entered h = record {
  same = h.same ∙ ap (λ (t : Translator). record t { terms = c.terms }) entered
      ∙ ap (λ s. record a { terms = c.terms; scopes = s }) (sym (ap (λ (t : Translator). t.scopes) h.same));
  terms = h.terms ∙ ap (λ (t : Translator). terms_meant t.uris t.terms.items ++ known ts) entered;
}

-- terms before those of an element
pub scoped_more : (a b c : Translator) (ts us : List Term) → Adds a b ts → AddsInScope b c us → AddsInScope a c (ts ++ us)
scoped_more a b c ts us h more = record {
  same = more.same ∙ ap (λ (t : Translator). record t { terms = c.terms; scopes = c.scopes }) h.same;
  terms = more.terms ∙ ap (λ l. l ++ known us) h.terms ∙ append_assoc (terms_meant a.uris a.terms.items) (known ts) (known us)
      ∙ ap (λ l. terms_meant a.uris a.terms.items ++ l) (sym (map-append (λ (x : Term). Some x) ts us));
}
