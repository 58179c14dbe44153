-- A document is read on, as characters: behind a text, a start tag, an element without content and an end tag.
use Rattle.std.proofs.Common.{◌≡◌, ℕ, List, [], ◌∷◌, ◌++◌, refl, sym, ap, ◌∙◌, subst}
use Rattle.rn_xml.specs.Infoset.{Node, element, Nodes, no_nodes, more_nodes}
use Rattle.rn_xml.specs.XmlCharacters.{IsCharacters}
use Rattle.rn_xml.specs.XmlTags.{IsTagFront}
use Rattle.rn_xml.specs.XmlDocuments.{IsElement, IsContent, with_characters}
use Rattle.rn_xml.specs.inside.OpenElements.{OpenElement, joined, finished, with_children, scope_of, Closes, Reads, TakesElement, TakesEnd}

pub joined_nil : (a : Nodes) → joined a no_nodes ≡ a
joined_nil no_nodes = refl
joined_nil (more_nodes x k) = ap (more_nodes x) (joined_nil k)

pub joined_assoc : (a b c : Nodes) → joined (joined a b) c ≡ joined a (joined b c)
joined_assoc no_nodes b c = refl
joined_assoc (more_nodes x k) b c = ap (more_nodes x) (joined_assoc k b c)

pub with_characters_joined : (text : List ℕ) (k : Nodes) → joined (with_characters text no_nodes) k ≡ with_characters text k
with_characters_joined [] k = refl
with_characters_joined (c ∷ cs) k = refl

-- with a child more, the element that is closed is the same
finished_more : (e : OpenElement) (j k : Nodes) → finished (with_children e j) k ≡ finished e (joined j k)
finished_more e j k = ap (element e.name e.bound e.attributes) (joined_assoc e.children j k)

-- an element is closed in another that is open, which reads on
pub closed_reads : (cs : List ℕ) (e : OpenElement) (around : List OpenElement) (x : Node) (rest : List ℕ) → Closes cs (e ∷ around) x rest → Reads cs (with_children e (more_nodes x no_nodes)) around rest
closed_reads cs e around x rest closes = λ k after behind content end_tag.
    subst (λ y. Closes cs around y behind) (sym (finished_more e (more_nodes x no_nodes) k)) (closes k after behind content end_tag)

-- characters are read, and a tag follows
pub text_takes_element : (cs : List ℕ) (e : OpenElement) (around : List OpenElement) (rest text mid : List ℕ) → Reads cs e around rest → IsCharacters rest text mid
    → TakesElement cs (with_children e (with_characters text no_nodes) ∷ around) mid
text_takes_element cs e around rest text mid reads is = λ x behind is_element k after last content end_tag.
    let content_is : IsContent (e.bound ++ scope_of around) rest (with_characters text (more_nodes x k)) after = IsContent.more is is_element content in
    let same : finished (with_children e (with_characters text no_nodes)) (more_nodes x k) ≡ finished e (with_characters text (more_nodes x k)) =
    finished_more e (with_characters text no_nodes) (more_nodes x k) ∙ ap (finished e) (with_characters_joined text (more_nodes x k)) in
    subst (λ y. Closes cs around y last) (sym same) (reads (with_characters text (more_nodes x k)) after last content_is end_tag)

pub text_takes_end : (cs : List ℕ) (e : OpenElement) (around : List OpenElement) (rest text mid : List ℕ) → Reads cs e around rest → IsCharacters rest text mid
    → TakesEnd cs (with_children e (with_characters text no_nodes)) around mid
text_takes_end cs e around rest text mid reads is = λ behind end_tag.
    let same : finished (with_children e (with_characters text no_nodes)) no_nodes ≡ finished e (with_characters text no_nodes) =
    finished_more e (with_characters text no_nodes) no_nodes ∙ ap (finished e) (with_characters_joined text no_nodes) in
    subst (λ y. Closes cs around y behind) (sym same) (reads (with_characters text no_nodes) mid behind (IsContent.last is) end_tag)

-- a start tag is read
pub tag_reads : (cs : List ℕ) (e : OpenElement) (around : List OpenElement) (tag mid : List ℕ) → TakesElement cs around tag → e.children ≡ no_nodes
    → IsTagFront (scope_of around) tag e.qname e.name e.bound e.attributes (62 ∷ mid) → Reads cs e around mid
tag_reads cs e around tag mid takes none front = λ k after behind content end_tag.
    let is : IsElement (scope_of around) tag (element e.name e.bound e.attributes k) behind = IsElement.tags front content end_tag in
    subst (λ j. Closes cs around (element e.name e.bound e.attributes (joined j k)) behind) (sym none) (takes (element e.name e.bound e.attributes k) behind is)

-- the tag of an element without content is read
pub empty_tag_closes : (cs : List ℕ) (e : OpenElement) (around : List OpenElement) (tag rest : List ℕ) → TakesElement cs around tag → e.children ≡ no_nodes
    → IsTagFront (scope_of around) tag e.qname e.name e.bound e.attributes (47 ∷ 62 ∷ rest) → Closes cs around (finished e no_nodes) rest
empty_tag_closes cs e around tag rest takes none front =
    subst (λ j. Closes cs around (element e.name e.bound e.attributes (joined j no_nodes)) rest) (sym none)
    (takes (element e.name e.bound e.attributes no_nodes) rest (IsElement.empty front))
