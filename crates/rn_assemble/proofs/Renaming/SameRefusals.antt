-- The grammar of renamed modules is that of the modules, renamed, and the same refusals stand for them.
use mathlib.Core.Logic.Iff
use Rattle.std.proofs.Common.{◌≡◌, ◌↔◌, ◌<◌, ℕ, suc, ◌+◌, true, false, List, sum_by, sym, ap, ◌∙◌, subst}
use Rattle.std.specs.List.{AllByRecursion}
use Rattle.std.proofs.lemmas.List.Folds.{fold-map}
use Rattle.rn_text.specs.Texts.{Text, text_cmp}
use Rattle.rn_pattern.specs.Matching.{Grammar}
use Rattle.rn_pattern.specs.NameRules.{KeepsNameRules}
use Rattle.rn_pattern.specs.References.{Reaches, IsUndefined, IsRecursive}
use Rattle.rn_assemble.specs.Components.{Key, start_key, Component, NamedModule, has_key, Includes, instance_limit, instances, roots, set_components}
use Rattle.rn_assemble.specs.Combine.{IsPlainTwice, IsMixed, joined_pattern, joined_grammar}
use Rattle.rn_assemble.specs.Least.{key_cmp}
use Rattle.rn_assemble.specs.Refusal.{Refusal, conflict, faulty, missing, cycle, too_many_instances, override, plain_twice, mixed_methods, no_start, undefined, recursive, name_class, Wants, Lacks, BreaksNameRules, grammar_of, StandsFor, IsFirstFor}
use Rattle.rn_assemble.specs.Renamed.{renamed_grammar, IsOfKnownUris, IsRenaming}
use Rattle.rn_assemble.specs.inside.RenamedModules.{renamed_module, renamed_modules, DeclareKnown}
use Rattle.rn_assemble.proofs.Renaming.AlikeFacts.{same_type, some_alike, least_alike}
use Rattle.rn_assemble.proofs.Renaming.RenamedComponents.{renamed_components, HasKnownBody, Includes-renamed, instances_within-renamed, roots-renamed, has_key-renamed, set_components-renamed, set_components-known}
use Rattle.rn_assemble.proofs.Renaming.RenamedGrammars.{IsPlainTwice-renamed, IsMixed-renamed, joined_pattern-renamed, joined_grammar-renamed, joined_pattern-known, joined_grammar-known}
use Rattle.rn_assemble.proofs.Renaming.RenamedRules.{KeepsNameRules-renamed}
use Rattle.rn_assemble.proofs.Renaming.RenamedReferences.{reaches_alike, IsUndefined-renamed, IsRecursive-renamed}
use Rattle.rn_assemble.proofs.Renaming.RenamedLacks.{Wants-renamed, Lacks-renamed}

module _ {named : Text → Text} {Known : Text → Type 0} (r : IsRenaming named Known) where
  pub grammar_renamed : (ms : List NamedModule) → grammar_of (renamed_modules named ms) ≡ renamed_grammar named (grammar_of ms)
  grammar_renamed ms = ap joined_grammar (set_components-renamed r ms) ∙ joined_grammar-renamed named (set_components ms)

  pub known_grammar : (ms : List NamedModule) → DeclareKnown Known ms → IsOfKnownUris Known (grammar_of ms)
  known_grammar ms k = joined_grammar-known Known (set_components ms) (set_components-known r ms k)

  -- ---- what is said of components

  breaks_alike : (cs : List Component) → AllByRecursion (HasKnownBody Known) cs
      → (k : Key) → BreaksNameRules (renamed_components named cs) k ↔ BreaksNameRules cs k
  breaks_alike cs h k =
      let pattern = subst (λ p. KeepsNameRules p ↔ KeepsNameRules (joined_pattern cs k)) (sym (joined_pattern-renamed named cs k))
      (KeepsNameRules-renamed r (joined_pattern cs k) (joined_pattern-known Known cs k h)) in
      Iff.and (same_type (ap (λ b. b ≡ true) (has_key-renamed named k cs))) (Iff.not pattern)

  module _ (ms : List NamedModule) where
    -- the modules renamed
    abbrev ns : List NamedModule
    ns = renamed_modules named ms

    -- the instances of all modules of a set
    abbrev all_instances : List NamedModule → ℕ
    all_instances among = sum_by (λ (m : NamedModule). instances among m.name) (roots among)

    instances_alike : all_instances ns ≡ all_instances ms
    instances_alike =
        ap (sum_by (λ (m : NamedModule). instances ns m.name)) (roots-renamed named ms)
        ∙ fold-map (λ a (m : NamedModule). a + instances ns m.name) (renamed_module named) 0 (roots ms)
        ∙ (λ i. sum_by (λ (m : NamedModule). instances_within-renamed named (suc instance_limit) ms m.name i) (roots ms))

    plain_twice_alike : (k : Key) → IsPlainTwice k (set_components ns) ↔ IsPlainTwice k (set_components ms)
    plain_twice_alike k =
        same_type (ap (IsPlainTwice k) (set_components-renamed r ms) ∙ IsPlainTwice-renamed named k (set_components ms))

    mixed_alike : (k : Key) → IsMixed k (set_components ns) ↔ IsMixed k (set_components ms)
    mixed_alike k = same_type (ap (IsMixed k) (set_components-renamed r ms) ∙ IsMixed-renamed named k (set_components ms))

    start_alike : has_key start_key (set_components ns) ≡ has_key start_key (set_components ms)
    start_alike = ap (has_key start_key) (set_components-renamed r ms) ∙ has_key-renamed named start_key (set_components ms)

    undefined_alike : (x : Text) → IsUndefined (grammar_of ns) x ↔ IsUndefined (grammar_of ms) x
    undefined_alike x =
        subst (λ (G : Grammar). IsUndefined G x ↔ IsUndefined (grammar_of ms) x) (sym (grammar_renamed ms))
        (IsUndefined-renamed named (grammar_of ms) x)

    recursive_alike : (x : Text) → IsRecursive (grammar_of ns) x ↔ IsRecursive (grammar_of ms) x
    recursive_alike x =
        subst (λ (G : Grammar). IsRecursive G x ↔ IsRecursive (grammar_of ms) x) (sym (grammar_renamed ms))
        (IsRecursive-renamed named (grammar_of ms) x)

    cycle_alike : (x : Text) → Reaches (Includes ns) x x ↔ Reaches (Includes ms) x x
    cycle_alike x = reaches_alike (λ a b. same_type (Includes-renamed named ms a b)) x x

    module _ (declared : DeclareKnown Known ms) where
      name_class_alike : (k : Key) → BreaksNameRules (set_components ns) k ↔ BreaksNameRules (set_components ms) k
      name_class_alike k =
          subst (λ cs. BreaksNameRules cs k ↔ BreaksNameRules (set_components ms) k) (sym (set_components-renamed r ms))
          (breaks_alike (set_components ms) (set_components-known r ms declared) k)

      -- the same refusals stand
      pub same_refusals : (q : Refusal) → StandsFor (renamed_modules named ms) q ↔ StandsFor ms q
      same_refusals (conflict x n) = Iff.rfl
      same_refusals (faulty f x) = Iff.rfl
      same_refusals (missing x w) =
          Iff.and (least_alike text_cmp _ _ (λ y. some_alike (Wants-renamed named ms y)) x)
          (least_alike text_cmp (Wants ns x) (Wants ms x) (Wants-renamed named ms x) w)
      same_refusals (cycle x) = least_alike text_cmp _ _ cycle_alike x
      same_refusals too_many_instances = same_type (ap (λ n. instance_limit < n) instances_alike)
      same_refusals (override x k) =
          Iff.and (least_alike text_cmp _ _ (λ y. some_alike (Lacks-renamed r ms y)) x)
          (least_alike key_cmp (Lacks ns x) (Lacks ms x) (Lacks-renamed r ms x) k)
      same_refusals (plain_twice k) = least_alike key_cmp _ _ plain_twice_alike k
      same_refusals (mixed_methods k) = least_alike key_cmp _ _ mixed_alike k
      same_refusals no_start = same_type (ap (λ b. b ≡ false) start_alike)
      same_refusals (undefined x) = least_alike text_cmp _ _ undefined_alike x
      same_refusals (recursive x) = least_alike text_cmp _ _ recursive_alike x
      same_refusals (name_class k) = least_alike key_cmp _ _ name_class_alike k

      -- and the same one is the first
      pub same_first : (q : Refusal) → IsFirstFor (renamed_modules named ms) q ↔ IsFirstFor ms q
      same_first q = (
        λ f. ((same_refusals q).0 f.0, λ p before s. f.1 p before ((same_refusals p).1 s)),
        λ f. ((same_refusals q).1 f.0, λ p before s. f.1 p before ((same_refusals p).0 s)),
      )
