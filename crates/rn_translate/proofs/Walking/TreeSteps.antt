-- The children of an element, one after the other: the texts before a child, and the child.
use Rattle.std.proofs.Common.{◌≡◌, ℕ, ◌<◌, ◌≤◌, refl, arith}
use Rattle.rn_xml.specs.Infoset.{Nodes}
use Rattle.rn_xml.specs.DocumentTrees.{AreChildren}
use Rattle.rn_xml.specs.declared.document.XmlDocument.{XmlDocument}
use Rattle.rn_translate.specs.SchemaElements.{count_of, has_except}
use Rattle.rn_translate.specs.Layouts.{Written, Layout}
use Rattle.rn_translate.specs.Translation.{children}
use Rattle.rn_translate.specs.inside.Walks.{AreNested, Skips, NextChild}

-- ---- texts leave nothing

pub skips_count : {k j : Nodes} → Skips k j → count_of k ≡ count_of j
skips_count Skips.nothing = refl
skips_count (Skips.text more) = skips_count more

pub skips_except : {k j : Nodes} → Skips k j → has_except k ≡ has_except j
skips_except Skips.nothing = refl
skips_except (Skips.text more) = skips_except more

pub skips_children : {k j : Nodes} (e : Written) (l : Layout) (n : ℕ) → Skips k j → children e l n k ≡ children e l n j
skips_children e l n Skips.nothing = refl
skips_children e l n (Skips.text more) = skips_children e l n more

-- ---- the next child

pub no_end_before : {d : XmlDocument} {p e t behind after : ℕ} {k : Nodes} → AreNested d → AreChildren d p e t k behind after → e ≤ behind
no_end_before nested AreChildren.none = omega arith
no_end_before nested (AreChildren.text there is before more) = no_end_before nested more
no_end_before {e = e} nested (AreChildren.child {row = row} there is before inner more) = omega (arith, nested e row there, no_end_before nested more)

pub next_child : {d : XmlDocument} {p e t behind after : ℕ} {k : Nodes} → AreChildren d p e t k behind after → e < behind → NextChild d p e t k behind after
next_child AreChildren.none more = absurd (omega (arith, more))
next_child (AreChildren.text there is before rest) more =
    let n = next_child rest more in
    record { row = n.row; inside = n.inside; rest = n.rest; text = n.text; mid = n.mid; there = n.there; has_parent = n.has_parent; inner = n.inner; outer = n.outer; skips = Skips.text n.skips; before = n.before }
next_child {t = t} (AreChildren.child {mid = mid} {row = row} {inside = inside} {k = k} there is before inner rest) more =
    record { row = row; inside = inside; rest = k; text = t; mid = mid; there = there; has_parent = is; inner = inner; outer = rest; skips = Skips.nothing; before = before }
