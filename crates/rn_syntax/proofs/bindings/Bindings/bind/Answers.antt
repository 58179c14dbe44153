-- What the last declaration binds comes to what the others bind.
use Rattle.std.proofs.Common.{◌≡◌, ◌++◌, ◌∷◌, [], ℕ, Bool, List, Option, map, ap, ◌∙◌, sym, is_some, Some, None, length, refl}
use Rattle.std.specs.Prelude.{if◌then◌else◌}
use Rattle.std.proofs.lemmas.List.{map-append}
use Rattle.rn_syntax.specs.Tree.{Declaration}
use Rattle.rn_syntax.specs.View.{declaration_view}
use Rattle.rn_syntax.specs.Places.{is_default, binds_namespace, binds_library, number_of}
use Rattle.rn_syntax.proofs.BindingDeclarations.{length_of, number_more}
use Rattle.rn_syntax.proofs.bindings.Bindings.bind.Goals as goal

-- the number of the first of one kind, with one declaration more
with_last : (f : Declaration → Bool) (old all : List Declaration) (last : Declaration) (before after : Option ℕ) (b : Bool) (n : ℕ) → all ≡ old ++ last ∷ [] → n ≡ length old → before ≡ number_of f old → f last ≡ b
    → after ≡ (if is_some before then before else if b then Some n else None) → after ≡ number_of f all
with_last f old all last before after b n e l h k a = a
    ∙ (λ i. if is_some (h i) then h i else if sym k i then Some (l i) else None)
    ∙ sym (number_more f old last)
    ∙ ap (number_of f) (sym e)

pub invariant_of-result : goal.invariant_of-result
invariant_of-result c =
    let old = map declaration_view c.args.self.declarations.now in
    let last = declaration_view c.args.last.now in
    let e : map declaration_view c.args.declarations.now ≡ old ++ last ∷ [] = ap (map declaration_view) c.requires ∙ map-append declaration_view _ _ in
    let l : length c.args.self.declarations.now ≡ length old = sym (length_of declaration_view c.args.self.declarations.now) in
    record {
      default_is = with_last is_default old _ last _ _ _ _ e l c.args.self.default_is refl c.with_default-default.ensures;
      namespaces_are = λ p. with_last (binds_namespace p) old _ last _ _ _ _ e l (c.args.self.namespaces_are p) (c.namespace_prefix.ensures p) (c.in_ok-namespaces.ensures p);
      libraries_are = λ p. with_last (binds_library p) old _ last _ _ _ _ e l (c.args.self.libraries_are p) (c.library_prefix.ensures p) (c.in_ok-libraries.ensures p);
    }
