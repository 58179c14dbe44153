-- What the rest of a document must be, where elements are open: behind a text, a start tag, an element without content and an end tag.
use Rattle.std.proofs.Common.{◌≡◌, ◌≢◌, ℕ, true, false, List, ◌∷◌, ◌++◌, refl, sym, ap, ◌∙◌, subst, arith}
use Rattle.std.specs.Prelude.{codes, ◌==◌}
use Rattle.std.proofs.lemmas.Bool.{true≢false}
use Rattle.std.proofs.lemmas.Bool.Decides.{nat_tests}
use Rattle.rn_text.specs.Characters.{is_name_start}
use Rattle.rn_text.specs.Segments.{begins_with}
use Rattle.rn_text.proofs.Words.EqualLists.{cons_first, cons_rest}
use Rattle.rn_xml.specs.Infoset.{Name, Binding, Attribute, Node, Nodes, no_nodes, more_nodes}
use Rattle.rn_xml.specs.XmlCharacters.{IsCharacters}
use Rattle.rn_xml.specs.XmlTags.{Scope, IsTagFront, IsEndTag}
use Rattle.rn_xml.specs.XmlDocuments.{IsElement, IsContent, with_characters}
use Rattle.rn_xml.specs.XmlDocuments as d
use Rattle.rn_xml.specs.XmlTags as t
use Rattle.rn_xml.specs.inside.Fronts.{opens_tag, IsBare, ReachNoTag}
use Rattle.rn_xml.specs.inside.OpenElements.{OpenElement, EndsAll, LacksElement, LacksTag, Needs, NeedsElement, NeedsEnd, scope_of}
use Rattle.rn_xml.proofs.Refusals.OneReading.Contents.{leads_on}
use Rattle.rn_xml.proofs.Refusals.OneReading.FirstCharacters.{tag_kind, name_opens_tag}
use Rattle.rn_xml.proofs.Refusals.OneReading.Tags.{tag_front_once, end_tag_once, qname_begins}

-- ---- an element and an end tag begin with a tag

pub front_opens : (scope : Scope) (cs qname : List ℕ) (name : Name) (bound : List Binding) (attributes : List Attribute) (rest : List ℕ) → IsTagFront scope cs qname name bound attributes rest → opens_tag cs ≡ true
front_opens scope cs qname name bound attributes rest front = ap opens_tag front.opens ∙ name_opens_tag qname front.prefix front.local front.behind_name front.is_name

pub element_opens : (scope : Scope) (cs : List ℕ) (y : Node) (rest : List ℕ) → IsElement scope cs y rest → opens_tag cs ≡ true
element_opens scope cs y rest (d.IsElement.empty {qname = q} {name = n} {bound = b} {attributes = a} front) = front_opens scope cs q n b a (47 ∷ 62 ∷ rest) front
element_opens scope cs y rest (d.IsElement.tags {qname = q} {mid = m} {name = n} {bound = b} {attributes = a} front content closes) = front_opens scope cs q n b a (62 ∷ m) front

pub end_opens : (qname cs rest : List ℕ) → IsEndTag qname cs rest → opens_tag cs ≡ true
end_opens qname cs rest (t.IsEndTag.closes space) = refl

-- no element where no tag begins
pub no_element : (scope : Scope) (cs : List ℕ) → LacksTag scope cs → (y : Node) (rest : List ℕ) → ¬ IsElement scope cs y rest
no_element scope cs none y rest (d.IsElement.empty {qname = q} {name = n} {bound = b} {attributes = a} front) = none q n b a (47 ∷ 62 ∷ rest) front refl
no_element scope cs none y rest (d.IsElement.tags {qname = q} {mid = m} {name = n} {bound = b} {attributes = a} front content closes) = none q n b a (62 ∷ m) front refl

-- ---- behind characters

content_left : (scope : Scope) (cs text mid : List ℕ) (k : Nodes) (after qname behind : List ℕ) → IsCharacters cs text mid → IsContent scope cs k after → IsEndTag qname after behind → (j : Nodes) × IsContent scope mid j after
content_left scope cs text mid k after qname behind is (d.IsContent.last {text = u} h) end =
    let on = leads_on cs text u mid after is h (tag_kind after (end_opens qname after behind end)) in (with_characters on.0 no_nodes, d.IsContent.last on.1)
content_left scope cs text mid k after qname behind is (d.IsContent.more {text = u} {mid = m} {after = f} {x = y} {k = j} h one more) end =
    let on = leads_on cs text u mid m is h (tag_kind m (element_opens scope m y f one)) in (with_characters on.0 (more_nodes y j), d.IsContent.more on.1 one more)

pub text_needs : (cs : List ℕ) (e : OpenElement) (outer : List OpenElement) (rest text mid : List ℕ) → Needs cs (e ∷ outer) rest → IsCharacters rest text mid → Needs cs (e ∷ outer) mid
text_needs cs e outer rest text mid needs is x left h =
    let all = needs x left h in
    let c = content_left (e.bound ++ scope_of outer) rest text mid all.0 all.1 e.qname all.2 is all.3 all.4 in
    (c.0, all.1, all.2, c.1, all.4, all.5)

-- no tag follows them
pub reaches_none : (cs : List ℕ) (e : OpenElement) (outer : List OpenElement) (rest : List ℕ) → Needs cs (e ∷ outer) rest → ReachNoTag rest → LacksElement cs
reaches_none cs e outer rest needs none x left h = let all = needs x left h in at all.0 all.1 all.2 all.3 all.4
  where
    at : (k : Nodes) (after behind : List ℕ) → IsContent (e.bound ++ scope_of outer) rest k after → IsEndTag e.qname after behind → ⊥
    at k after behind (d.IsContent.last {text = u} c) end = none u after c (end_opens e.qname after behind end)
    at k after behind (d.IsContent.more {text = u} {mid = m} {after = f} {x = y} c one more) end = none u m c (element_opens (e.bound ++ scope_of outer) m y f one)

-- ---- a tag, before which nothing is left

-- the content ends here, or an element is next
data IsNextTag (e : OpenElement) (outer : List OpenElement) (tag left : List ℕ) : Type 0 where
  end : (behind : List ℕ) → IsEndTag e.qname tag behind → EndsAll outer behind left → IsNextTag e outer tag left
  next : (y : Node) (behind : List ℕ) → IsElement (scope_of (e ∷ outer)) tag y behind → EndsAll (e ∷ outer) behind left → IsNextTag e outer tag left

next_tag : (e : OpenElement) (outer : List OpenElement) (tag left : List ℕ) → IsBare tag → EndsAll (e ∷ outer) tag left → IsNextTag e outer tag left
next_tag e outer tag left bare all = at all.0 all.1 all.2 all.3 all.4 all.5
  where
    at : (k : Nodes) (after behind : List ℕ) → IsContent (e.bound ++ scope_of outer) tag k after → IsEndTag e.qname after behind → EndsAll outer behind left → IsNextTag e outer tag left
    at k after behind (d.IsContent.last {text = u} c) closes rest = IsNextTag.end behind (subst (λ l. IsEndTag e.qname l behind) (bare u after c) closes) rest
    at k after behind (d.IsContent.more {text = u} {mid = m} {after = f} {x = y} {k = j} c one more) closes rest =
        IsNextTag.next y f (subst (λ l. IsElement (e.bound ++ scope_of outer) l y f) (bare u m c) one) (j, after, behind, more, closes, rest)

slash_starts : (c : ℕ) → is_name_start c ≡ true → c ≡ 47 → ⊥
unfolding is_name_start
slash_starts c n e = grind (arith, nat_tests)

-- an element begins with no `</`
element_no_end : (scope : Scope) (cs inside : List ℕ) (y : Node) (rest : List ℕ) → IsElement scope cs y rest → cs ≡ 60 ∷ 47 ∷ inside → ⊥
element_no_end scope cs inside y rest (d.IsElement.empty {qname = q} {name = n} {bound = b} {attributes = a} front) e =
    let begins = qname_begins q front.prefix front.local front.behind_name front.is_name in
    slash_starts begins.first begins.starts (cons_first (sym begins.is ∙ cons_rest (sym front.opens ∙ e)))
element_no_end scope cs inside y rest (d.IsElement.tags {qname = q} {mid = m} {name = n} {bound = b} {attributes = a} front content closes) e =
    let begins = qname_begins q front.prefix front.local front.behind_name front.is_name in
    slash_starts begins.first begins.starts (cons_first (sym begins.is ∙ cons_rest (sym front.opens ∙ e)))

-- where the tag is that of an end, or of no end
pub needs_end : (cs : List ℕ) (e : OpenElement) (outer : List OpenElement) (tag inside : List ℕ) → Needs cs (e ∷ outer) tag → IsBare tag → tag ≡ 60 ∷ 47 ∷ inside → NeedsEnd cs e outer tag
needs_end cs e outer tag inside needs bare front x left h = at (next_tag e outer tag left bare (needs x left h))
  where
    at : IsNextTag e outer tag left → (behind : List ℕ) × IsEndTag e.qname tag behind × EndsAll outer behind left
    at (IsNextTag.end behind closes rest) = (behind, closes, rest)
    at (IsNextTag.next y behind one rest) = absurd (element_no_end (scope_of (e ∷ outer)) tag inside y behind one front)

pub needs_element : (cs : List ℕ) (e : OpenElement) (outer : List OpenElement) (tag : List ℕ) → Needs cs (e ∷ outer) tag → IsBare tag → ((inside : List ℕ) → tag ≢ codes "</" ++ inside) → NeedsElement cs (e ∷ outer) tag
needs_element cs e outer tag needs bare absent x left h = at (next_tag e outer tag left bare (needs x left h))
  where
    no_end : (cs rest : List ℕ) → IsEndTag e.qname cs rest → cs ≡ tag → ⊥
    no_end cs rest (t.IsEndTag.closes {cs = f} space) is = absent (e.qname ++ f) (sym is)

    at : IsNextTag e outer tag left → (y : Node) × (behind : List ℕ) × IsElement (scope_of (e ∷ outer)) tag y behind × EndsAll (e ∷ outer) behind left
    at (IsNextTag.end behind closes rest) = absurd (no_end tag behind closes refl)
    at (IsNextTag.next y behind one rest) = (y, behind, one, rest)

-- where no tag begins, there is no document
pub no_tag : (cs : List ℕ) (e : OpenElement) (outer : List OpenElement) (tag : List ℕ) → Needs cs (e ∷ outer) tag → IsBare tag → opens_tag tag ≡ false → LacksElement cs
no_tag cs e outer tag needs bare none x left h = at (next_tag e outer tag left bare (needs x left h))
  where
    at : IsNextTag e outer tag left → ⊥
    at (IsNextTag.end behind closes rest) = true≢false (sym (end_opens e.qname tag behind closes) ∙ none)
    at (IsNextTag.next y behind one rest) = true≢false (sym (element_opens (scope_of (e ∷ outer)) tag y behind one) ∙ none)

-- ---- behind a tag

pub tag_needs : (cs : List ℕ) (e : OpenElement) (around : List OpenElement) (tag mid : List ℕ) → NeedsElement cs around tag → IsTagFront (scope_of around) tag e.qname e.name e.bound e.attributes (62 ∷ mid) → Needs cs (e ∷ around) mid
tag_needs cs e around tag mid needs front x left h = let all = needs x left h in at all.0 all.1 all.2 all.3
  where
    at : (y : Node) (behind : List ℕ) → IsElement (scope_of around) tag y behind → EndsAll around behind left → EndsAll (e ∷ around) mid left
    at y behind (d.IsElement.empty {qname = q} {name = n} {bound = b} {attributes = a} front2) rest =
        let same = tag_front_once (scope_of around) tag e.qname q e.name n e.bound b e.attributes a 62 47 mid (62 ∷ behind) front front2 refl refl in
        absurd (true≢false (ap (begins_with (λ c. c == 62)) same.2))
    at y behind (d.IsElement.tags {qname = q} {mid = m} {after = f} {name = n} {bound = b} {attributes = a} {k = k} front2 content closes) rest =
        let same = tag_front_once (scope_of around) tag e.qname q e.name n e.bound b e.attributes a 62 62 mid m front front2 refl refl in (
          k,
          f,
          behind,
          subst (λ l. IsContent (e.bound ++ scope_of around) l k f) (sym (cons_rest same.2)) (subst (λ l. IsContent (l ++ scope_of around) m k f) (sym same.1) content),
          subst (λ l. IsEndTag l f behind) (sym same.0) closes,
          rest,
        )

pub empty_tag_needs : (cs : List ℕ) (e : OpenElement) (around : List OpenElement) (tag rest : List ℕ) → NeedsElement cs around tag → IsTagFront (scope_of around) tag e.qname e.name e.bound e.attributes (47 ∷ 62 ∷ rest) → Needs cs around rest
empty_tag_needs cs e around tag rest needs front x left h = let all = needs x left h in at all.0 all.1 all.2 all.3
  where
    at : (y : Node) (behind : List ℕ) → IsElement (scope_of around) tag y behind → EndsAll around behind left → EndsAll around rest left
    at y behind (d.IsElement.empty {qname = q} {name = n} {bound = b} {attributes = a} front2) all =
        let same = tag_front_once (scope_of around) tag e.qname q e.name n e.bound b e.attributes a 47 47 (62 ∷ rest) (62 ∷ behind) front front2 refl refl in
        subst (λ l. EndsAll around l left) (sym (cons_rest (cons_rest same.2))) all
    at y behind (d.IsElement.tags {qname = q} {mid = m} {name = n} {bound = b} {attributes = a} front2 content closes) all =
        let same = tag_front_once (scope_of around) tag e.qname q e.name n e.bound b e.attributes a 47 62 (62 ∷ rest) m front front2 refl refl in
        absurd (true≢false (ap (begins_with (λ c. c == 47)) same.2))

pub end_needs : (cs : List ℕ) (e : OpenElement) (around : List OpenElement) (tag rest : List ℕ) → NeedsEnd cs e around tag → IsEndTag e.qname tag rest → Needs cs around rest
end_needs cs e around tag rest needs closes x left h =
    let all = needs x left h in subst (λ l. EndsAll around l left) (sym (end_tag_once e.qname tag rest all.0 closes all.1)) all.2
