-- Members that stand in a list before, as many includes of a module bring them in (RELAX NG 2001, 4.17).
use Rattle.std.specs.Prelude.{ℕ, List, map}
use Rattle.std.specs.declared.alloc.Global.{Global}
use Rattle.std.specs.declared.rc.Rc.{Rc}
use Rattle.rn_pattern.specs.Canonical.{HaveSameMembers}
use Rattle.rn_pattern.specs.Tree.{Tree, Trees, interleave, choice, list_of}
use Rattle.rn_pattern.specs.View.{pattern_view, shared_view}
use Rattle.rn_pattern.specs.declared.tree.Pattern.{Pattern}
use Rattle.rn_assemble.specs.Firsts.{AreFirsts, joined_members}

-- the first places of the members of a list
abbrev pub AreFirstsAmong : List ℕ → List (Rc Pattern Global) → Type 0
AreFirstsAmong firsts members = AreFirsts firsts (map shared_view members)

-- the first places of the members of a body that components are joined to
abbrev pub AreFirstsOf : List ℕ → Pattern → Type 0
AreFirstsOf firsts body = AreFirsts firsts (joined_members (pattern_view body))

-- two choices or two interleaves, whose members are the same, however often each stands in them
pub data AreSameButRepeats : Tree → Tree → Type 0 where
  choices : {ps qs : Trees} → HaveSameMembers (list_of ps) (list_of qs) → AreSameButRepeats (choice ps) (choice qs)
  interleaves : {ps qs : Trees} → HaveSameMembers (list_of ps) (list_of qs) → AreSameButRepeats (interleave ps) (interleave qs)
