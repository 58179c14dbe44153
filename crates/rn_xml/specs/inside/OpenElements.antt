-- Elements that are open, the innermost first, with what is read of each.
use Rattle.std.specs.Prelude.{◌≡◌, true, ℕ, List, [], ◌∷◌, ◌++◌, Option, Some, None}
use Rattle.rn_xml.specs.Infoset.{Name, Attribute, Binding, Node, element, Nodes, no_nodes, more_nodes}
use Rattle.rn_xml.specs.XmlTags.{Scope, IsTagFront, IsEndTag}
use Rattle.rn_xml.specs.XmlDocuments.{IsElement, IsContent}
use Rattle.rn_xml.specs.inside.Fronts.{closes_tag}

-- an element whose start tag is read: its name as it is written, what its tag says, the children that are read, the index of its row,
-- and how many texts come before it
pub record OpenElement : Type 0 where
  pub qname : List ℕ
  pub name : Name
  pub bound : List Binding
  pub attributes : List Attribute
  pub children : Nodes
  pub index : ℕ
  pub texts : ℕ

-- some nodes, and then more
abbrev pub joined : Nodes → Nodes → Nodes
joined no_nodes k = k
joined (more_nodes x j) k = more_nodes x (joined j k)

-- the element with these children behind those that are read
abbrev pub finished : OpenElement → Nodes → Node
finished e k = element e.name e.bound e.attributes (joined e.children k)

-- the element with these children more
abbrev pub with_children : OpenElement → Nodes → OpenElement
with_children e k = record e { children = joined e.children k }

-- what the prefixes mean in them
abbrev pub scope_of : List OpenElement → Scope
scope_of [] = []
scope_of (e ∷ around) = e.bound ++ scope_of around

-- their rows, the innermost last
abbrev pub rows_opened : List OpenElement → List ℕ
rows_opened [] = []
rows_opened (e ∷ around) = rows_opened around ++ e.index ∷ []

-- the innermost one, as the parent of what follows
abbrev pub parent_of : List OpenElement → Option ℕ
parent_of [] = None
parent_of (e ∷ around) = Some e.index

-- the characters are these open elements, this element as their next child, and then the rest: whatever closes the open elements
-- behind it makes an element of the whole
abbrev pub Closes : List ℕ → List OpenElement → Node → List ℕ → Type 0
Closes cs [] x rest = IsElement [] cs x rest
Closes cs (e ∷ around) x rest = (k : Nodes) (after behind : List ℕ) → IsContent (e.bound ++ scope_of around) rest k after → IsEndTag e.qname after behind
    → Closes cs around (finished e (more_nodes x k)) behind

-- the characters are these open elements and then the rest, whose content goes on
abbrev pub Reads : List ℕ → OpenElement → List OpenElement → List ℕ → Type 0
Reads cs e around rest = (k : Nodes) (after behind : List ℕ) → IsContent (e.bound ++ scope_of around) rest k after → IsEndTag e.qname after behind
    → Closes cs around (finished e k) behind

-- the characters are these open elements and then the rest, of which an element may be the front
abbrev pub TakesElement : List ℕ → List OpenElement → List ℕ → Type 0
TakesElement cs opened rest = (x : Node) (behind : List ℕ) → IsElement (scope_of opened) rest x behind → Closes cs opened x behind

-- the same, where the innermost may end
abbrev pub TakesEnd : List ℕ → OpenElement → List OpenElement → List ℕ → Type 0
TakesEnd cs e around rest = (behind : List ℕ) → IsEndTag e.qname rest behind → Closes cs around (finished e no_nodes) behind

-- the characters end these open elements, and then these are left
abbrev pub EndsAll : List OpenElement → List ℕ → List ℕ → Type 0
EndsAll [] rest left = rest ≡ left
EndsAll (e ∷ around) rest left = (k : Nodes) × (after : List ℕ) × (behind : List ℕ) × IsContent (e.bound ++ scope_of around) rest k after × IsEndTag e.qname after behind × EndsAll around behind left

-- where an element ends that these characters begin with, the rest ends the open elements
abbrev pub Needs : List ℕ → List OpenElement → List ℕ → Type 0
Needs cs opened rest = (x : Node) (left : List ℕ) → IsElement [] cs x left → EndsAll opened rest left

-- the same, where an element is the front of the rest
abbrev pub NeedsElement : List ℕ → List OpenElement → List ℕ → Type 0
NeedsElement cs opened rest = (x : Node) (left : List ℕ) → IsElement [] cs x left → (y : Node) × (behind : List ℕ) × IsElement (scope_of opened) rest y behind × EndsAll opened behind left

-- the same, where the innermost ends
abbrev pub NeedsEnd : List ℕ → OpenElement → List OpenElement → List ℕ → Type 0
NeedsEnd cs e around rest = (x : Node) (left : List ℕ) → IsElement [] cs x left → (behind : List ℕ) × IsEndTag e.qname rest behind × EndsAll around behind left

-- no start tag begins here, nor that of an element without content
abbrev pub LacksTag : Scope → List ℕ → Type 0
LacksTag scope cs = (qname : List ℕ) (name : Name) (bound : List Binding) (attributes : List Attribute) (rest : List ℕ) → IsTagFront scope cs qname name bound attributes rest → ¬ (closes_tag rest ≡ true)

-- no element is at the front
abbrev pub LacksElement : List ℕ → Type 0
LacksElement cs = (x : Node) (left : List ℕ) → ¬ IsElement [] cs x left
