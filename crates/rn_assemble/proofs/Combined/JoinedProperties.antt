-- What is joined of components has what each of them has.
use Rattle.std.proofs.Common.{Bool, true, false, cond, not, List, [], ◌∷◌, map, filter, Option, sym, subst}
use Rattle.std.specs.Prelude.{IfSome, bytes_eq, ⊤}
use Rattle.std.specs.List.{AllByRecursion}
use Rattle.rn_pattern.specs.Tree.{Tree, Trees, interleave, choice, trees_of}
use Rattle.rn_text.specs.Texts.{Text}
use Rattle.rn_pattern.specs.Matching.{definition_of}
use Rattle.rn_pattern.specs.Excepts.{HasExcepts, HaveExcepts}
use Rattle.rn_pattern.proofs.Ordered.InOrder.{contained_each}
use Rattle.rn_assemble.specs.Components.{Key, start_key, name_key, Component, same_key}
use Rattle.rn_assemble.specs.Combine.{of_key, bodies, method_node, joined_tree, joined_pattern, first_of, defined_names, joined_grammar}
use Rattle.rn_assemble.specs.WritableTexts.{IsName, IsWritable, AreWritable}
use Rattle.rn_assemble.specs.WellFormed.{HasWritableTexts}
use Rattle.rn_assemble.proofs.Combined.Combinations.{some_joined, joined_definition}

module _ (Q : Tree → Type 0) (of_choice : (ps : List Tree) → AllByRecursion Q ps → Q (choice (trees_of ps))) (of_interleave : (ps : List Tree) → AllByRecursion Q ps → Q (interleave (trees_of ps))) where
  node_kept : (b : Bool) (ps : List Tree) → AllByRecursion Q ps → Q (cond b (interleave (trees_of ps)) (choice (trees_of ps)))
  node_kept true ps h = of_interleave ps h
  node_kept false ps h = of_choice ps h

  join_kept : (b : Bool) (ps : List Tree) → AllByRecursion Q ps → Q (joined_tree (λ ts. cond b (interleave ts) (choice ts)) ps)
  join_kept b [] h = node_kept b [] h
  join_kept b (p ∷ []) h = h.0
  join_kept b (p ∷ q ∷ ps) h = node_kept b (p ∷ q ∷ ps) h

  body_kept_at : (b : Bool) (c : Component) (cs : List Component) → Q c.body → AllByRecursion Q (map (λ (d : Component). d.body) cs) → AllByRecursion Q (map (λ (d : Component). d.body) (cond b (c ∷ cs) cs))
  body_kept_at true c cs h k = (h, k)
  body_kept_at false c cs h k = k

  bodies_kept : (k : Key) (cs : List Component) → AllByRecursion (λ (c : Component). Q c.body) cs → AllByRecursion Q (bodies k cs)
  bodies_kept k [] h = tt
  bodies_kept k (c ∷ cs) h = body_kept_at (same_key k c.key) c (of_key k cs) h.0 (bodies_kept k cs h.1)

  pub joined_kept : (cs : List Component) (k : Key) → AllByRecursion (λ (c : Component). Q c.body) cs → Q (joined_pattern cs k)
  joined_kept cs k h = join_kept _ (bodies k cs) (bodies_kept k cs h)

  some_kept : (over : Trees → Tree) (ps : List Tree) → Q (joined_tree over ps) → IfSome (some_joined over ps) Q
  some_kept over [] h = tt
  some_kept over (p ∷ ps) h = h

  pub joined_definition_kept : (cs : List Component) (x : Text) → AllByRecursion (λ (c : Component). Q c.body) cs → IfSome (definition_of (joined_grammar cs) x) Q
  joined_definition_kept cs x h = subst (λ (o : Option Tree). IfSome o Q) (sym (joined_definition cs x)) (some_kept (method_node (name_key x) cs) (bodies (name_key x) cs) (joined_kept cs (name_key x) h))

-- ---- excepts

all_have : (ps : List Tree) → AllByRecursion HasExcepts ps → HaveExcepts (trees_of ps)
all_have [] h = tt
all_have (p ∷ ps) h = (h.0, all_have ps h.1)

pub joined_excepts : (cs : List Component) (k : Key) → AllByRecursion (λ (c : Component). HasExcepts c.body) cs → HasExcepts (joined_pattern cs k)
joined_excepts = joined_kept HasExcepts all_have all_have

pub joined_definition_excepts : (cs : List Component) (x : Text) → AllByRecursion (λ (c : Component). HasExcepts c.body) cs → IfSome (definition_of (joined_grammar cs) x) HasExcepts
joined_definition_excepts = joined_definition_kept HasExcepts all_have all_have

-- ---- names and texts

all_writable : (ps : List Tree) → AllByRecursion IsWritable ps → AreWritable (trees_of ps)
all_writable [] h = tt
all_writable (p ∷ ps) h = (h.0, all_writable ps h.1)

-- the name of the key can be written
abbrev pub HasName : Key → Type 0
HasName start_key = ⊤
HasName (name_key x) = IsName x

-- key and body can be written
abbrev pub IsWritableComponent : Component → Type 0
IsWritableComponent c = HasName c.key × IsWritable c.body

kept_at : (b : Bool) (x : Text) (xs : List Text) → IsName x → AllByRecursion IsName xs → AllByRecursion IsName (cond b (x ∷ xs) xs)
kept_at true x xs h k = (h, k)
kept_at false x xs h k = k

names_kept : (test : Text → Bool) (xs : List Text) → AllByRecursion IsName xs → AllByRecursion IsName (filter test xs)
names_kept test [] h = tt
names_kept test (x ∷ xs) h = kept_at (test x) x (filter test xs) h.0 (names_kept test xs h.1)

first_kept : (k : Key) (xs : List Text) → HasName k → AllByRecursion IsName xs → AllByRecursion IsName (first_of k xs)
first_kept start_key xs h k = k
first_kept (name_key x) xs h k = (h, names_kept (λ y. not (bytes_eq x y)) xs k)

defined_are_names : (cs : List Component) → AllByRecursion IsWritableComponent cs → AllByRecursion IsName (defined_names cs)
defined_are_names [] h = tt
defined_are_names (c ∷ cs) h = first_kept c.key (defined_names cs) h.0.0 (defined_are_names cs h.1)

bodies_writable : (cs : List Component) → AllByRecursion IsWritableComponent cs → AllByRecursion (λ (c : Component). IsWritable c.body) cs
bodies_writable [] h = tt
bodies_writable (c ∷ cs) h = (h.0.1, bodies_writable cs h.1)

entries_named : (f : Text → Tree) (xs : List Text) → AllByRecursion IsName xs → AllByRecursion (λ (d : Text × Tree). IsName d.0) (map (λ (x : Text). (x, f x)) xs)
entries_named f [] h = tt
entries_named f (x ∷ xs) h = (h.0, entries_named f xs h.1)

-- the grammar of components that can be written
pub joined_writable : (cs : List Component) → AllByRecursion IsWritableComponent cs → HasWritableTexts (joined_grammar cs)
joined_writable cs h = record {
  start = joined_kept IsWritable all_writable all_writable cs start_key (bodies_writable cs h);
  definitions = λ x. joined_definition_kept IsWritable all_writable all_writable cs x (bodies_writable cs h);
  names = λ x p c. contained_each (λ (d : Text × Tree). IsName d.0) (joined_grammar cs).definitions (entries_named (λ x. joined_pattern cs (name_key x)) (defined_names cs) (defined_are_names cs h)) (x, p) c;
}
