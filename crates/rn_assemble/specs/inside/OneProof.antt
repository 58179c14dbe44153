-- What a grammar without a refusal keeps has one proof at most, so that a `Grammar` can hold it.
use Rattle.std.specs.Prelude.{ℕ, List, Option, Some, None, IfSome}
use Rattle.std.specs.Coded.{×_prop, Π_prop, Unit-prop, le_prop}
use Rattle.std.proofs.Math.Bool.{Bool-set}
use Rattle.std.proofs.Math.Logic.{∥∥₁_prop}
use Rattle.rn_pattern.specs.Tree as t
use Rattle.rn_pattern.specs.Tree.{NameTree, NameTrees, any_name, any_name_but, ns_name, ns_name_but, name, name_choice, no_names, more_names, Tree, Trees, no_trees, more_trees}
use Rattle.rn_pattern.specs.Matching.{Grammar, definition_of}
use Rattle.rn_pattern.specs.Excepts.{IsExcept, AreExcepts, HasExcepts, HaveExcepts}
use Rattle.rn_pattern.specs.NameRules.{HasNoAny, HaveNoAny, HasNamesAlone, HaveNamesAlone, HasNameExcepts, HaveNameExcepts, HasNoDeclaration, HaveNoDeclaration, KeepsNameRules, KeepNameRules}
use Rattle.rn_assemble.specs.SettlingOrder.{IsSettlingOrder}
use Rattle.rn_assemble.specs.WellFormed.{IsWellFormed}

nothing_prop : IsProp ⊥
nothing_prop = λ x y. absurd x

never_prop : {A : Type 0} → IsProp (A → ⊥)
never_prop = Π_prop (λ h. nothing_prop)

if_some_prop : (Q : Tree → Type 0) → ((p : Tree) → IsProp (Q p)) → (o : Option Tree) → IsProp (IfSome o Q)
if_some_prop Q each None = Unit-prop
if_some_prop Q each (Some p) = each p

-- ---- excepts of datatypes

mutual
  except_prop : (p : Tree) → IsProp (IsExcept p)
  except_prop t.not_allowed = Unit-prop
  except_prop (t.value l x s) = Unit-prop
  except_prop (t.datum l x ps) = Unit-prop
  except_prop (t.datum_but l x ps p) = except_prop p
  except_prop (t.choice ps) = excepts_prop ps
  except_prop p = nothing_prop

  excepts_prop : (ps : Trees) → IsProp (AreExcepts ps)
  excepts_prop no_trees = Unit-prop
  excepts_prop (more_trees p ps) = ×_prop (except_prop p) (excepts_prop ps)

mutual
  has_excepts_prop : (p : Tree) → IsProp (HasExcepts p)
  has_excepts_prop (t.datum_but l x ps p) = except_prop p
  has_excepts_prop (t.list p) = has_excepts_prop p
  has_excepts_prop (t.attribute c p) = has_excepts_prop p
  has_excepts_prop (t.element c p) = has_excepts_prop p
  has_excepts_prop (t.one_or_more p) = has_excepts_prop p
  has_excepts_prop (t.group ps) = have_excepts_prop ps
  has_excepts_prop (t.interleave ps) = have_excepts_prop ps
  has_excepts_prop (t.choice ps) = have_excepts_prop ps
  has_excepts_prop p = Unit-prop

  have_excepts_prop : (ps : Trees) → IsProp (HaveExcepts ps)
  have_excepts_prop no_trees = Unit-prop
  have_excepts_prop (more_trees p ps) = ×_prop (has_excepts_prop p) (have_excepts_prop ps)

-- ---- name classes

mutual
  no_any_prop : (c : NameTree) → IsProp (HasNoAny c)
  no_any_prop any_name = nothing_prop
  no_any_prop (any_name_but c) = nothing_prop
  no_any_prop (ns_name u) = Unit-prop
  no_any_prop (ns_name_but u c) = no_any_prop c
  no_any_prop (name u l) = Unit-prop
  no_any_prop (name_choice cs) = no_anys_prop cs

  no_anys_prop : (cs : NameTrees) → IsProp (HaveNoAny cs)
  no_anys_prop no_names = Unit-prop
  no_anys_prop (more_names c cs) = ×_prop (no_any_prop c) (no_anys_prop cs)

mutual
  alone_prop : (c : NameTree) → IsProp (HasNamesAlone c)
  alone_prop (name u l) = Unit-prop
  alone_prop (name_choice cs) = alones_prop cs
  alone_prop c = nothing_prop

  alones_prop : (cs : NameTrees) → IsProp (HaveNamesAlone cs)
  alones_prop no_names = Unit-prop
  alones_prop (more_names c cs) = ×_prop (alone_prop c) (alones_prop cs)

mutual
  name_excepts_prop : (c : NameTree) → IsProp (HasNameExcepts c)
  name_excepts_prop (any_name_but c) = ×_prop (no_any_prop c) (name_excepts_prop c)
  name_excepts_prop (ns_name_but u c) = ×_prop (alone_prop c) (name_excepts_prop c)
  name_excepts_prop (name_choice cs) = all_name_excepts_prop cs
  name_excepts_prop c = Unit-prop

  all_name_excepts_prop : (cs : NameTrees) → IsProp (HaveNameExcepts cs)
  all_name_excepts_prop no_names = Unit-prop
  all_name_excepts_prop (more_names c cs) = ×_prop (name_excepts_prop c) (all_name_excepts_prop cs)

mutual
  undeclared_prop : (c : NameTree) → IsProp (HasNoDeclaration c)
  undeclared_prop any_name = Unit-prop
  undeclared_prop (any_name_but c) = undeclared_prop c
  undeclared_prop (ns_name u) = never_prop
  undeclared_prop (ns_name_but u c) = ×_prop never_prop (undeclared_prop c)
  undeclared_prop (name u l) = ×_prop never_prop never_prop
  undeclared_prop (name_choice cs) = all_undeclared_prop cs

  all_undeclared_prop : (cs : NameTrees) → IsProp (HaveNoDeclaration cs)
  all_undeclared_prop no_names = Unit-prop
  all_undeclared_prop (more_names c cs) = ×_prop (undeclared_prop c) (all_undeclared_prop cs)

mutual
  rules_prop : (p : Tree) → IsProp (KeepsNameRules p)
  rules_prop (t.datum_but l x ps p) = rules_prop p
  rules_prop (t.list p) = rules_prop p
  rules_prop (t.attribute c p) = λ x y i. (name_excepts_prop c x.0 y.0 i, undeclared_prop c x.1 y.1 i, rules_prop p x.2 y.2 i)
  rules_prop (t.element c p) = ×_prop (name_excepts_prop c) (rules_prop p)
  rules_prop (t.one_or_more p) = rules_prop p
  rules_prop (t.group ps) = all_rules_prop ps
  rules_prop (t.interleave ps) = all_rules_prop ps
  rules_prop (t.choice ps) = all_rules_prop ps
  rules_prop p = Unit-prop

  all_rules_prop : (ps : Trees) → IsProp (KeepNameRules ps)
  all_rules_prop no_trees = Unit-prop
  all_rules_prop (more_trees p ps) = ×_prop (rules_prop p) (all_rules_prop ps)

-- ---- grammars

pub IsWellFormed-prop : (G : Grammar) → IsProp (IsWellFormed G)
IsWellFormed-prop G v w = λ i. record {
  defined = Π_prop (λ x. never_prop) v.defined w.defined i;
  loop_free = Π_prop (λ x. never_prop) v.loop_free w.loop_free i;
  start_excepts = has_excepts_prop G.start v.start_excepts w.start_excepts i;
  excepts = Π_prop (λ x. if_some_prop HasExcepts has_excepts_prop (definition_of G x)) v.excepts w.excepts i;
  start_names = rules_prop G.start v.start_names w.start_names i;
  names = Π_prop (λ x. if_some_prop KeepsNameRules rules_prop (definition_of G x)) v.names w.names i;
}

pub IsSettlingOrder-prop : (G : Grammar) (order : List ℕ) → IsProp (IsSettlingOrder G order)
IsSettlingOrder-prop G order v w = λ i. record {
  within = Π_prop (λ k. Π_prop (λ l. le_prop)) v.within w.within i;
  once = Π_prop (λ k. Π_prop (λ j. Π_prop (λ l. Π_prop (λ m. never_prop)))) v.once w.once i;
  listed = Π_prop (λ x. Π_prop (λ k. Π_prop (λ r. Π_prop (λ e. Bool-set _ _)))) v.listed w.listed i;
  reached = Π_prop (λ k. Π_prop (λ x. Π_prop (λ l. Π_prop (λ e. ∥∥₁_prop)))) v.reached w.reached i;
  behind = Π_prop (λ k. Π_prop (λ j. Π_prop (λ x. Π_prop (λ y. Π_prop (λ p. Π_prop (λ l. Π_prop (λ e. Π_prop (λ d. Π_prop (λ r. Π_prop (λ n. Bool-set _ _)))))))))) v.behind w.behind i;
}
