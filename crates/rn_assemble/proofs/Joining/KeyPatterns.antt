-- The pattern to which the bodies of a key are joined, and the restrictions on name classes in it.
use Rattle.std.proofs.Common.{◌≡◌, ◌≢◌, ℕ, zero, suc, ◌<◌, Bool, true, false, cond, List, [], ◌∷◌, Contains, length, get_or, Option, Some, None, refl, sym, ap, ◌∙◌, subst, arith}
use Rattle.std.specs.List.{AllByRecursion}
use Rattle.std.proofs.lemmas.List.{length-map}
use Rattle.rn_pattern.specs.NameRules.{KeepsNameRules, KeepNameRules}
use Rattle.rn_pattern.specs.Opened.{one_or_node}
use Rattle.rn_pattern.specs.Tree.{Tree, Trees, no_trees, interleave, choice, trees_of}
use Rattle.rn_pattern.specs.View.{pattern_view}
use Rattle.rn_pattern.proofs.Ordered.InOrder.{contains_front}
use Rattle.rn_assemble.specs.Components.{Component, Key}
use Rattle.rn_assemble.specs.Combine.{bodies, method_node, is_interleave, joined_tree, joined_pattern, of_key, uses}
use Rattle.rn_assemble.specs.Firsts.{joined_members}
use Rattle.rn_assemble.specs.declared.by_key.combining.Joined.{Joined}
use Rattle.rn_assemble.specs.inside.Patterns.{AreResolved, IsJoined, IsJoinedTo}
use Rattle.rn_assemble.specs.inside.Tied.{AreTied}
use Rattle.rn_assemble.specs.Refusal.{BreaksNameRules}
use Rattle.rn_assemble.proofs.Joining.FirstMembers.{members_are, none_tied}
use Rattle.rn_assemble.proofs.Referring.LeastKeys.{has_some}

-- ---- restrictions on name classes in joined patterns

keeps_node : (b : Bool) (ps : Trees) → KeepNameRules ps → KeepsNameRules (cond b (interleave ps) (choice ps))
keeps_node true ps h = h
keeps_node false ps h = h

node_keeps : (b : Bool) (ps : Trees) → KeepsNameRules (cond b (interleave ps) (choice ps)) → KeepNameRules ps
node_keeps true ps h = h
node_keeps false ps h = h

all_keep : (ps : List Tree) → AllByRecursion KeepsNameRules ps → KeepNameRules (trees_of ps)
all_keep [] h = tt
all_keep (p ∷ ps) h = (h.0, all_keep ps h.1)

keeps_join : (b : Bool) (ps : List Tree) → KeepNameRules (trees_of ps) → KeepsNameRules (one_or_node (λ ts. cond b (interleave ts) (choice ts)) (trees_of ps))
keeps_join b [] h = keeps_node b no_trees h
keeps_join b (p ∷ []) h = h.0
keeps_join b (p ∷ q ∷ ps) h = keeps_node b (trees_of (p ∷ q ∷ ps)) h

join_keeps : (b : Bool) (ps : List Tree) → KeepsNameRules (one_or_node (λ ts. cond b (interleave ts) (choice ts)) (trees_of ps)) → KeepNameRules (trees_of ps)
join_keeps b [] h = tt
join_keeps b (p ∷ []) h = (h, tt)
join_keeps b (p ∷ q ∷ ps) h = node_keeps b (trees_of (p ∷ q ∷ ps)) h

kept_at : (ps : List Tree) (i : ℕ) (d : Tree) → i < length ps → KeepNameRules (trees_of ps) → KeepsNameRules (get_or ps i d)
kept_at [] i d l h = absurd (omega (arith, l))
kept_at (p ∷ ps) zero d l h = h.0
kept_at (p ∷ ps) (suc i) d l h = kept_at ps i d (omega (arith, l)) h.1

-- a node over any number of patterns but one
node_joined : (node : Trees → Tree) (ps : List Tree) → length ps ≢ 1 → node (trees_of ps) ≡ joined_tree node ps
node_joined node [] n = refl
node_joined node (p ∷ []) n = absurd (n refl)
node_joined node (p ∷ q ∷ ps) n = refl

module _ (cs : List Component) (k : Key) where
  -- a pattern that breaks them, so that the key does
  pub breaks_by : (t : Tree) → Contains (bodies k cs) t → ¬ KeepsNameRules t → BreaksNameRules cs k
  breaks_by t c n = (
    has_some k cs (omega (arith, c.1, length-map (of_key k cs) (λ (d : Component). d.body))),
    λ keeps. n (subst KeepsNameRules c.2 (kept_at (bodies k cs) c.0 t c.1 (join_keeps (uses is_interleave k cs) (bodies k cs) keeps))),
  )

  pub all_kept : AllByRecursion KeepsNameRules (bodies k cs) → ¬ BreaksNameRules cs k
  all_kept h b = b.1 (keeps_join (uses is_interleave k cs) (bodies k cs) (all_keep (bodies k cs) h))

  -- what a key with one component is joined to
  pub one_joined : (t : Tree) (o : Option Joined) → bodies k cs ≡ t ∷ [] → IsJoinedTo t o → IsJoined cs k o
  one_joined t None one h = breaks_by t (subst (λ ts. Contains ts t) (sym one) (contains_front t [])) h
  one_joined t (Some j) one h = (
    h.0 ∙ sym (ap (joined_tree (method_node k cs)) one),
    all_kept (subst (AllByRecursion KeepsNameRules) (sym one) (h.1, tt)),
    subst (λ fs. AreTied fs (joined_members (joined_pattern cs k))) (sym h.2) (none_tied (joined_members (joined_pattern cs k))),
  )

  pub none_joined : AreResolved (bodies k cs) None → IsJoined cs k None
  none_joined h = breaks_by h.0 h.1 h.2

  -- and one with none or several
  pub list_joined : (j : Joined) → length (bodies k cs) ≢ 1 → AllByRecursion KeepsNameRules (bodies k cs) → pattern_view j.pattern ≡ method_node k cs (trees_of (bodies k cs)) → AreTied j.firsts.items (bodies k cs) → IsJoined cs k (Some j)
  list_joined j n keep is tied = (
    is ∙ node_joined (method_node k cs) (bodies k cs) n,
    all_kept keep,
    subst (AreTied j.firsts.items) (sym (members_are (uses is_interleave k cs) (bodies k cs) n)) tied,
  )
