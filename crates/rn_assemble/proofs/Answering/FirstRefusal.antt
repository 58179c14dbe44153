-- The first refusal of modules: of the refusals in their order, which one stands and that none before it does.
use Rattle.std.proofs.Common.{◌≡◌, ℕ, ◌<◌, List, refl, sym, ◌∙◌, arith}
use Rattle.std.specs.Prelude.{true}
use Rattle.std.proofs.lemmas.Bool.{false≢true}
use Rattle.rn_text.specs.Texts.{Text}
use Rattle.rn_pattern.specs.References.{IsUndefined, IsRecursive}
use Rattle.rn_assemble.specs.declared.grammar.Grammar.{Grammar}
use Rattle.rn_assemble.specs.declared.refusal.Refusal as code
use Rattle.rn_assemble.specs.declared.refusal.Refusal.TheVariants as r
use Rattle.rn_assemble.specs.inside.Checked.{IsGrammarOf, IsLacking, IsFirstOfModules}
use Rattle.rn_assemble.specs.Combine.{IsMixed, IsPlainTwice}
use Rattle.rn_assemble.specs.GrammarView.{grammar_view}
use Rattle.rn_assemble.specs.Components.{Key, NamedModule, has_key, set_components, start_key}
use Rattle.rn_assemble.specs.inside.Included.{AreIncluded}
use Rattle.rn_assemble.specs.inside.Joining.{IsJoinedGrammar, IsMisnamed}
use Rattle.rn_assemble.specs.inside.Methods.{CanCombine, IsUncombined}
use Rattle.rn_assemble.specs.Refusal.{Refusal, conflict, faulty, missing, cycle, too_many_instances, override, plain_twice, mixed_methods, no_start, undefined, recursive, name_class, rank, BreaksNameRules, Lacks, StandsFor, grammar_of}
use Rattle.rn_assemble.specs.inside.Sound.{HasSoundReferences, IsUnsound}

module _ (modules : List NamedModule) where
  -- no refusal stands of those whose places are below n
  abbrev pub NoneBelow : ℕ → Type 0
  NoneBelow n = (q : Refusal) → rank q < n → StandsFor modules q → ⊥

  pub none_included : (numbers : List ℕ) → AreIncluded modules numbers → NoneBelow 5
  none_included numbers a (conflict x v) l h = h
  none_included numbers a (faulty f x) l h = h
  none_included numbers a (missing x w) l h = a.none_missing x w h.1.holds
  none_included numbers a (cycle x) l h = a.no_cycle x h.holds
  none_included numbers a too_many_instances l h = a.few h
  none_included numbers a q l h = absurd (omega (arith, l))

  pub none_lacking : NoneBelow 5 → ((y : Text) (k : Key) → ¬ Lacks modules y k) → NoneBelow 6
  none_lacking n never (override x k) l h = never x k h.1.holds
  none_lacking n never q l h = n q (omega (arith, l)) h

  none_plain : NoneBelow 6 → ((k : Key) → ¬ IsPlainTwice k (set_components modules)) → NoneBelow 7
  none_plain n never (plain_twice k) l h = never k h.holds
  none_plain n never q l h = n q (omega (arith, l)) h

  none_mixed : NoneBelow 7 → ((k : Key) → ¬ IsMixed k (set_components modules)) → NoneBelow 8
  none_mixed n never (mixed_methods k) l h = never k h.holds
  none_mixed n never q l h = n q (omega (arith, l)) h

  none_startless : NoneBelow 8 → has_key start_key (set_components modules) ≡ true → NoneBelow 9
  none_startless n e no_start l h = false≢true (sym h ∙ e)
  none_startless n e q l h = n q (omega (arith, l)) h

  none_undefined : NoneBelow 9 → ((x : Text) → ¬ IsUndefined (grammar_of modules) x) → NoneBelow 10
  none_undefined n never (undefined x) l h = never x h.holds
  none_undefined n never q l h = n q (omega (arith, l)) h

  none_recursive : NoneBelow 10 → ((x : Text) → ¬ IsRecursive (grammar_of modules) x) → NoneBelow 11
  none_recursive n never (recursive x) l h = never x h.holds
  none_recursive n never q l h = n q (omega (arith, l)) h

  pub none_combined : NoneBelow 6 → CanCombine (set_components modules) → NoneBelow 9
  none_combined n c = none_startless (none_mixed (none_plain n c.plain_once) c.one_method) c.start

  pub none_sound : NoneBelow 9 → HasSoundReferences (set_components modules) → NoneBelow 11
  none_sound n s = none_recursive (none_undefined n s.defined) s.loop_free

  -- what is found is the first
  pub lacking_first : NoneBelow 5 → (q : code.Refusal) → IsLacking modules q → IsFirstOfModules modules q
  lacking_first n (r.Override m k) h = (h, n)
  lacking_first n r.Memory h = refl
  lacking_first n q h = absurd h

  pub uncombined_first : NoneBelow 6 → (q : code.Refusal) → IsUncombined (set_components modules) q → IsFirstOfModules modules q
  uncombined_first n (r.PlainTwice k) h = (h, n)
  uncombined_first n (r.MixedMethods k) h = (h.0, none_plain n h.1)
  uncombined_first n r.NoStart h = (h.0, none_mixed (none_plain n h.1) h.2)
  uncombined_first n r.Memory h = refl
  uncombined_first n q h = absurd h

  pub unsound_first : NoneBelow 9 → (q : code.Refusal) → IsUnsound (set_components modules) q → IsFirstOfModules modules q
  unsound_first n (r.Undefined x) h = (h, n)
  unsound_first n (r.Recursive x) h = (h.0, none_undefined n h.1)
  unsound_first n r.Memory h = refl
  unsound_first n q h = absurd h

  pub misnamed_first : NoneBelow 11 → (q : code.Refusal) → IsMisnamed (set_components modules) q → IsFirstOfModules modules q
  misnamed_first n (r.NameClass k) h = (h, n)
  misnamed_first n r.Memory h = refl
  misnamed_first n q h = absurd h

  pub none_named : NoneBelow 11 → ((k : Key) → ¬ BreaksNameRules (set_components modules) k) → (q : Refusal) → StandsFor modules q → ⊥
  none_named n keeps (name_class k) h = keeps k h.holds
  none_named n keeps q h = n q (omega arith) h

  pub joined_grammar_of : NoneBelow 11 → (g : Grammar) → IsJoinedGrammar (set_components modules) g → IsGrammarOf modules (grammar_view g)
  joined_grammar_of n g j = (none_named n j.keeps, j.is)
