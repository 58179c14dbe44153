-- What can be written of a grammar can be written of its canonical grammar, and of that opened.
use Rattle.std.proofs.Common.{List, [], ◌∷◌, ◌++◌, Ordering, Less, Equal, Greater}
use Rattle.std.specs.Prelude.{flat_map, ⊤}
use Rattle.std.specs.Ordering.{match_ordering}
use Rattle.std.specs.List.{AllByRecursion}
use Rattle.rn_pattern.specs.Tree.{NameTree, NameTrees, any_name, any_name_but, ns_name, ns_name_but, name, name_choice, no_names, more_names, name_list_of, name_trees_of, Trees, no_trees, more_trees, list_of}
use Rattle.rn_pattern.specs.Order.{name_cmp}
use Rattle.rn_pattern.specs.Matching.{Grammar, definition_of}
use Rattle.rn_pattern.specs.Canonical.{put_once, sorted_once, name_class_of, names_within, name_choice_step, canonical_name, canonical_names}
use Rattle.rn_pattern.specs.Reached.{IsCanonicalOf}
use Rattle.rn_pattern.proofs.Ordered.Ascending.{each_flat, each_sorted_once}
use Rattle.rn_pattern.proofs.CanonicalForms.KeptByForms.{IsKept}
use Rattle.rn_pattern.proofs.CanonicalForms.KeptRules.{canonical_except}
use Rattle.rn_assemble.specs.WritableTexts.{IsWritableName, AreWritableNames, IsWritable, AreWritable}
use Rattle.rn_assemble.specs.WellFormed.{HasWritableTexts}
use Rattle.rn_simplify.proofs.Simplified.Forms.{found_in, form_source}
use Rattle.rn_simplify.proofs.Simplified.Promises.{normal_start_kept, normal_kept}
use Rattle.rn_simplify.proofs.Simplified.WellFormed.{if_some_at, of_some}

-- ---- name classes

abbrev IsSome : {X : Type 0} → List X → Type 0
IsSome [] = ⊥
IsSome (x ∷ xs) = ⊤

each_name : (cs : NameTrees) → AreWritableNames cs → AllByRecursion IsWritableName (name_list_of cs)
each_name no_names h = tt
each_name (more_names c cs) h = (h.0, each_name cs h.1)

names_each : (cs : List NameTree) → AllByRecursion IsWritableName cs → AreWritableNames (name_trees_of cs)
names_each [] h = tt
names_each (c ∷ cs) h = (h.0, names_each cs h.1)

within_writable : (c : NameTree) → IsWritableName c → AllByRecursion IsWritableName (names_within c)
within_writable (name_choice no_names) h = absurd h
within_writable (name_choice (more_names c cs)) h = (h.0, each_name cs h.1)
within_writable c h = (h, tt)

within_some : (c : NameTree) → IsWritableName c → IsSome (names_within c)
within_some (name_choice no_names) h = h
within_some (name_choice (more_names c cs)) h = tt
within_some c h = tt

some_front : {X : Type 0} (xs ys : List X) → IsSome xs → IsSome (xs ++ ys)
some_front [] ys h = absurd h
some_front (x ∷ xs) ys h = tt

put_some_at : (o : Ordering) (c d : NameTree) (ds es : List NameTree) → IsSome (match_ordering o (c ∷ d ∷ ds) (d ∷ ds) (d ∷ es))
put_some_at Less c d ds es = tt
put_some_at Equal c d ds es = tt
put_some_at Greater c d ds es = tt

put_some : (c : NameTree) (ds : List NameTree) → IsSome (put_once name_cmp c ds)
put_some c [] = tt
put_some c (d ∷ ds) = put_some_at (name_cmp c d) c d ds (put_once name_cmp c ds)

sorted_some : (cs : List NameTree) → IsSome cs → IsSome (sorted_once name_cmp cs)
sorted_some [] h = h
sorted_some (c ∷ cs) h = put_some c (sorted_once name_cmp cs)

class_writable : (cs : List NameTree) → IsSome cs → AllByRecursion IsWritableName cs → IsWritableName (name_class_of cs)
class_writable [] s h = absurd s
class_writable (c ∷ []) s h = h.0
class_writable (c ∷ d ∷ cs) s h = (h.0, names_each (d ∷ cs) h.1)

step_writable : (c : NameTree) (cs : List NameTree) → AllByRecursion IsWritableName (c ∷ cs) → IsWritableName (name_choice_step (c ∷ cs))
step_writable c cs h =
    let flat = flat_map names_within (c ∷ cs) in
    class_writable (sorted_once name_cmp flat) (sorted_some flat (some_front (names_within c) (flat_map names_within cs) (within_some c h.0)))
    (each_sorted_once IsWritableName name_cmp flat (each_flat IsWritableName IsWritableName names_within within_writable (c ∷ cs) h))

mutual
  writable_name : (c : NameTree) → IsWritableName c → IsWritableName (canonical_name c)
  writable_name any_name h = h
  writable_name (any_name_but c) h = writable_name c h
  writable_name (ns_name u) h = h
  writable_name (ns_name_but u c) h = (h.0, writable_name c h.1)
  writable_name (name u l) h = h
  writable_name (name_choice no_names) h = absurd h
  writable_name (name_choice (more_names c cs)) h = step_writable (canonical_name c) (canonical_names cs) (writable_name c h.0, writable_names cs h.1)

  writable_names : (cs : NameTrees) → AreWritableNames cs → AllByRecursion IsWritableName (canonical_names cs)
  writable_names no_names h = tt
  writable_names (more_names c cs) h = (writable_name c h.0, writable_names cs h.1)

-- ---- patterns

each_writable : (ps : Trees) → AreWritable ps → AllByRecursion IsWritable (list_of ps)
each_writable no_trees h = tt
each_writable (more_trees p ps) h = (h.0, each_writable ps h.1)

writable_each : (ps : Trees) → AllByRecursion IsWritable (list_of ps) → AreWritable ps
writable_each no_trees h = tt
writable_each (more_trees p ps) h = (h.0, writable_each ps h.1)

pub writable_kept : IsKept IsWritable
writable_kept = record {
  of_none = tt;
  of_empty = tt;
  of_text = tt;
  of_datum = λ l x ps h. (h.0, h.1);
  of_list = λ p q f h. f h;
  of_attribute = λ c p q f h. (h.0, f h.1);
  of_element = λ c p q f h. (h.0, f h.1);
  named_attribute = λ c p h. (writable_name c h.0, h.1);
  named_element = λ c p h. (writable_name c h.0, h.1);
  in_more = λ p h. h;
  of_more = λ p h. h;
  in_group = each_writable;
  of_group = writable_each;
  in_interleave = each_writable;
  of_interleave = writable_each;
  in_choice = each_writable;
  of_choice = writable_each;
}

-- ---- grammars

pub normal_writable : (G N : Grammar) → IsCanonicalOf G N → HasWritableTexts G → HasWritableTexts N
normal_writable G N c w = record {
  start = normal_start_kept G N c IsWritable writable_kept (λ l x ps p f h. (h.0, h.1, canonical_except _ p h.2, f h.3)) w.start;
  definitions = λ x. if_some_at IsWritable (definition_of N x)
      (λ p e. normal_kept G N c IsWritable writable_kept (λ l x ps p f h. (h.0, h.1, canonical_except _ p h.2, f h.3)) (λ y q f. of_some IsWritable (definition_of G y) q f (w.definitions y)) x p e);
  names = λ x p h. let (q, g, is) = form_source _ G x p ((c.definitions x p).0 h).1 in w.names x q (found_in G x q g);
}
