-- The trees of patterns of the code, level by level.
use Rattle.std.proofs.Common.{◌≡◌, ◌∙◌, ℕ, ap, rules, Box, Global}
use Rattle.std.specs.Prelude.{Result, Ok, Err}
use Rattle.rn_syntax.specs.declared.fault.Fault.{Fault}
use Rattle.rn_syntax.specs.inside.Boxes.{boxed_named_view}
use Rattle.rn_syntax.specs.inside.Readers.{Makes}
use Rattle.rn_syntax.specs.declared.tree.Postfix.{Postfix}
use Rattle.rn_syntax.specs.Tree as t
use Rattle.rn_syntax.specs.View.{boxed_view, class_view, datatype_view, params_view, pattern_view}
use Rattle.rn_syntax.specs.declared.tree.Named.{Named}
use Rattle.rn_syntax.specs.declared.tree.Data.{Data}
use Rattle.rn_syntax.specs.declared.tree.Pat.{Pat, Element, Attribute, Empty, NotAllowed, Text, Ref, DatumBut, Repeated, the_lemmas}

pub view-Element : (n : Box Named Global) → pattern_view (Element n) ≡ t.element (class_view n.value.class) (pattern_view n.value.content)
view-Element n = search (rules, the_lemmas)

pub view-Attribute : (n : Box Named Global) → pattern_view (Attribute n) ≡ t.attribute (class_view n.value.class) (pattern_view n.value.content)
view-Attribute n = search (rules, the_lemmas)

pub view-Empty : pattern_view Empty ≡ t.empty
view-Empty = search (rules, the_lemmas)

pub view-NotAllowed : pattern_view NotAllowed ≡ t.not_allowed
view-NotAllowed = search (rules, the_lemmas)

pub view-Text : pattern_view Text ≡ t.text
view-Text = search (rules, the_lemmas)

pub view-Ref : (n : _) → pattern_view (Ref n) ≡ t.ref n.now
view-Ref n = search (rules, the_lemmas)

pub view-DatumBut : (d : Box Data Global) (i : ℕ) (p : Box Pat Global) → pattern_view (DatumBut d i p) ≡ t.datum_but (datatype_view d.value.datatype) (params_view d.value.params.items) i (pattern_view p.value)
view-DatumBut d i p = search (rules, the_lemmas)

pub view-Repeated : (s : Postfix) (p : Box Pat Global) → pattern_view (Repeated s p) ≡ t.repeated s (pattern_view p.value)
view-Repeated s p = search (rules, the_lemmas)

-- a pattern in a box, where there is memory for it
pub boxed_is : (x : Pat) {y : t.Pattern} (behind : ℕ) (r : Result (Box Pat Global × ℕ) Fault) → Makes (λ b. b.value) x behind r → pattern_view x ≡ y → Makes boxed_view y behind r
boxed_is x behind (Ok r) m seen = (ap pattern_view m.0 ∙ seen, m.1)
boxed_is x behind (Err e) m seen = m

-- a class and what is in braces behind it, in a box, where there is memory for it
pub named_is : (x : Named) (behind : ℕ) (r : Result (Box Named Global × ℕ) Fault) → Makes (λ b. b.value) x behind r → Makes boxed_named_view (class_view x.class, pattern_view x.content) behind r
named_is x behind (Ok r) m = (ap (λ (n : Named). (class_view n.class, pattern_view n.content)) m.0, m.1)
named_is x behind (Err e) m = m
