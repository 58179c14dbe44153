-- The trees of name classes and of patterns with a list of members.
use Rattle.std.proofs.Common.{◌≡◌, [], ◌∷◌, map, Some, None, refl, sym, ap, ◌∙◌}
use Rattle.std.specs.Prelude.{Box, Vec}
use Rattle.std.specs.Rc.{rc_str_bytes}
use Rattle.std.specs.declared.rc.RcStr.{RcStr}
use Rattle.std.specs.declared.alloc.Global.{Global}
use Rattle.rn_pattern.specs.Tree as tree
use Rattle.rn_pattern.specs.Tree.{NameTree, name_trees_of}
use Rattle.rn_pattern.specs.Canonical.{names_within}
use Rattle.rn_pattern.specs.View.{name_class_step, name_class_view}
use Rattle.rn_pattern.specs.declared.tree.NameClass.{NameClass, fold-roll-NameClass, map-NameClass}
use Rattle.rn_pattern.specs.declared.tree.NameClass.TheVariants.{rolls-AnyName, rolls-NsName, rolls-Choice}
use Rattle.rn_pattern.specs.declared.tree.NameClass.TheOpen.{NameClass-F}
use Rattle.rn_pattern.specs.declared.tree.NameClass.TheViews as class

pub choice_seen : (v : Vec NameClass Global) → name_class_view (class.Choice v) ≡ tree.name_choice (name_trees_of (map name_class_view v.items))
choice_seen v = ap name_class_view (sym (rolls-Choice v)) ∙ fold-roll-NameClass NameTree name_class_step (NameClass-F.Choice v)

pub any_name_but_seen : (c : Box NameClass Global) → name_class_view (class.AnyName (Some c)) ≡ tree.any_name_but (name_class_view c.value)
any_name_but_seen c = ap name_class_view (sym (rolls-AnyName (Some c))) ∙ fold-roll-NameClass NameTree name_class_step (NameClass-F.AnyName (Some c))

pub ns_name_but_seen : (u : RcStr Global) (c : Box NameClass Global) → name_class_view (class.NsName u (Some c)) ≡ tree.ns_name_but (rc_str_bytes u) (name_class_view c.value)
ns_name_but_seen u c = ap name_class_view (sym (rolls-NsName u (Some c))) ∙ fold-roll-NameClass NameTree name_class_step (NameClass-F.NsName u (Some c))

layer : (x : NameClass-F NameClass) → ((v : Vec NameClass Global) → x ≡ NameClass-F.Choice v → ⊥) → names_within (name_class_step (map-NameClass NameClass NameTree name_class_view x)) ≡ name_class_step (map-NameClass NameClass NameTree name_class_view x) ∷ []
layer (NameClass-F.AnyName None) h = refl
layer (NameClass-F.AnyName (Some c)) h = refl
layer (NameClass-F.NsName u None) h = refl
layer (NameClass-F.NsName u (Some c)) h = refl
layer (NameClass-F.Name u l) h = refl
layer (NameClass-F.Choice v) h = absurd (h v refl)
