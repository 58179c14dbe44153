-- The element of a module of good tokens can be written.
use Rattle.std.proofs.Common.{◌≡◌, ◌≢◌, ℕ, Bool, true, false, not, ◌&&◌, ◌||◌, cond, List, [], ◌∷◌, ◌++◌, Option, Some, None, refl, sym, ap, ◌∙◌, subst, ⊎_elim}
use Rattle.std.specs.Prelude.{bytes_eq, codes, encode_utf8_all}
use Rattle.std.specs.List.{list_all}
use Rattle.std.specs.Str.{chars}
use Rattle.std.proofs.Math.Utf8.{encode}
use Rattle.std.proofs.Common.{arith}
use Rattle.std.specs.Prelude.{◌<◌}
use Rattle.std.proofs.lemmas.Bool.Decides.{nat_tests}
use Rattle.std.proofs.lemmas.Str.{encode_ascii, encodes-chars, encodes_same}
use Rattle.std.proofs.lemmas.Bool.{cases_Bool, and_parts, false≢true}
use Rattle.std.proofs.lemmas.Slice.Eq.{bytes_eq-Decides}
use Rattle.rn_text.specs.Texts.{Text, is_white}
use Rattle.rn_text.specs.Characters.{is_ncname, is_xml_char, is_name_start, is_name_char}
use Rattle.rn_text.specs.Tokens.{Lexeme, HasTokens}
use Rattle.rn_pattern.specs.Document.{Attribute, Item, node, string, Items, no_items}
use Rattle.rn_syntax.specs.declared.tree.Method.{Method}
use Rattle.rn_syntax.specs.declared.tree.Method.TheVariants as w
use Rattle.rn_syntax.specs.declared.tree.Operator.{Operator}
use Rattle.rn_syntax.specs.declared.tree.Operator.TheVariants as o
use Rattle.rn_syntax.specs.declared.tree.Postfix.{Postfix}
use Rattle.rn_syntax.specs.declared.tree.Postfix.TheVariants as r
use Rattle.rn_syntax.specs.Tree as t
use Rattle.rn_syntax.specs.Tree.{Name, Datatype, Params, AnyName, NameClass, NameClasses, Pattern, Patterns, Declaration, Module}
use Rattle.rn_syntax.specs.Places.{xml_uri, xsd_uri}
use Rattle.rn_syntax.specs.TokenTerminals.{terminals}
use Rattle.rn_syntax.specs.Beginnings.{HasTree}
use Rattle.rn_assemble.specs.Resolve.{default_of, namespace_of, type_library, type_name}
use Rattle.rn_assemble.specs.WritableTexts.{IsName, IsXml as IsXmlText, AreParams}
use Rattle.rn_assemble.proofs.WellFormed.Terminals.{name_is, xml_is, xml_append, xml_nothing, tokens_good}
use Rattle.rn_assemble.proofs.WellFormed.GoodTrees.{IsGoodName, IsGoodClass, AreGoodClasses, IsGoodDatatype, IsGoodPattern, AreGoodPatterns, AreGoodDeclarations, IsGoodItem, AreGoodItems, IsGoodModule, module_good}
use Rattle.rn_assemble.proofs.WellFormed.GoodPatterns.{xsd_library, namespace_xml, default_xml, type_xml}
use Rattle.rn_rng.specs.Layout.{holds_text}
use Rattle.rn_rng.specs.Translation as m
use Rattle.rn_rng.specs.XmlDocument.{keeps_white}
use Rattle.rn_rng.specs.SpellableItems.{IsSpellableAttribute, AreSpellableAttributes, IsSpellableText, IsSpellableItem, AreSpellableItems, IsSpellableRoot, line, block, root}
use Rattle.rn_rng.specs.SpellableItems as s
use Rattle.rn_text.proofs.Words.XmlNames.{ncname_xml}
use Rattle.rn_rng.proofs.Documents.Tags.{apart}

-- ---- words

word : (cs : List ℕ) → encode_utf8_all cs ≡ cs → is_ncname cs ≡ true → IsName cs
word cs e n = subst IsName e (name_is cs n)

plain_text : (cs : List ℕ) → encode_utf8_all cs ≡ cs → list_all is_xml_char cs ≡ true → IsXmlText cs
plain_text cs e x = subst IsXmlText e (xml_is cs x)

-- a name is a text
name_text : (n : Text) → IsName n → IsXmlText n
name_text n h = record { utf8 = h.utf8; is = ncname_xml (chars n) h.is }

-- the names of attributes of the XML syntax
data IsAttributeName : Text → Type 0 where
  by_name : IsAttributeName (codes "name")
  by_ns : IsAttributeName (codes "ns")
  by_type : IsAttributeName (codes "type")
  by_library : IsAttributeName (codes "datatypeLibrary")
  by_combine : IsAttributeName (codes "combine")

attribute_name : {x : Text} → IsAttributeName x → IsName x
unfolding encode is_name_start is_name_char
attribute_name by_name = word (codes "name") refl refl
attribute_name by_ns = word (codes "ns") refl refl
attribute_name by_type = word (codes "type") refl refl
attribute_name by_library = word (codes "datatypeLibrary") refl refl
attribute_name by_combine = word (codes "combine") refl refl

no_declaration : {x : Text} → IsAttributeName x → x ≢ codes "xmlns"
no_declaration by_name = apart (codes "name") (codes "xmlns") refl
no_declaration by_ns = apart (codes "ns") (codes "xmlns") refl
no_declaration by_type = apart (codes "type") (codes "xmlns") refl
no_declaration by_library = apart (codes "datatypeLibrary") (codes "xmlns") refl
no_declaration by_combine = apart (codes "combine") (codes "xmlns") refl

-- ---- attributes

attribute_good : (x v : Text) → IsAttributeName x → IsXmlText v → IsSpellableAttribute (m.attribute x v)
attribute_good x v n h = record { no_namespace = refl; name = attribute_name n; no_declaration = no_declaration n; text = h }

no_attributes : AreSpellableAttributes []
no_attributes = record { each = tt; distinct = tt }

one_attribute : {a : Attribute} → IsSpellableAttribute a → AreSpellableAttributes (a ∷ [])
one_attribute h = record { each = (h, tt); distinct = (tt, tt) }

two_attributes : {a b : Attribute} → IsSpellableAttribute a → IsSpellableAttribute b → a.local ≢ b.local → AreSpellableAttributes (a ∷ b ∷ [])
two_attributes h k e = record { each = (h, (k, tt)); distinct = ((e, tt), (tt, tt)) }

-- an attribute where the test holds
optional : (b : Bool) {a : Attribute} → IsSpellableAttribute a → AreSpellableAttributes (cond b (a ∷ []) [])
optional true h = one_attribute h
optional false h = no_attributes

second_if : (b : Bool) {a c : Attribute} → IsSpellableAttribute a → IsSpellableAttribute c → a.local ≢ c.local → AreSpellableAttributes (a ∷ cond b (c ∷ []) [])
second_if true h k e = two_attributes h k e
second_if false h k e = one_attribute h

second_unless : (b : Bool) {a c : Attribute} → IsSpellableAttribute a → IsSpellableAttribute c → a.local ≢ c.local → AreSpellableAttributes (a ∷ cond b [] (c ∷ []))
second_unless true h k e = one_attribute h
second_unless false h k e = two_attributes h k e

qualified_at : (b : Bool) (local : Text) → IsName local → IsXmlText (cond b (codes "xml:") [] ++ local)
unfolding encode is_xml_char
qualified_at true local n = xml_append (codes "xml:") local (plain_text (codes "xml:") refl refl) (name_text local n)
qualified_at false local n = name_text local n

qualified_good : (uri local : Text) → IsName local → IsXmlText (m.qualified uri local)
qualified_good uri local n = qualified_at (bytes_eq uri xml_uri) local n

name_attributes_good : (taken uri local : Text) → IsXmlText uri → IsName local → AreSpellableAttributes (m.name_attributes taken uri local)
name_attributes_good taken uri local x n = second_if (m.needs_ns taken uri) (attribute_good (codes "name") (m.qualified uri local) by_name (qualified_good uri local n))
    (attribute_good (codes "ns") uri by_ns x) (apart (codes "name") (codes "ns") refl)

ns_attributes_good : (taken uri : Text) → IsXmlText uri → AreSpellableAttributes (m.ns_attributes taken uri)
ns_attributes_good taken uri x = optional (m.needs_ns taken uri) (attribute_good (codes "ns") uri by_ns x)

combine_good : (c : Method) {a : Attribute} → IsSpellableAttribute a → a.local ≢ codes "combine" → AreSpellableAttributes (a ∷ m.combine_attributes c)
unfolding encode is_xml_char
combine_good w.Plain h e = one_attribute h
combine_good w.Choice h e = two_attributes h (attribute_good (codes "combine") (codes "choice") by_combine (plain_text (codes "choice") refl refl)) e
combine_good w.Interleave h e = two_attributes h (attribute_good (codes "combine") (codes "interleave") by_combine (plain_text (codes "interleave") refl refl)) e

combine_alone : (c : Method) → AreSpellableAttributes (m.combine_attributes c)
unfolding encode is_xml_char
combine_alone w.Plain = no_attributes
combine_alone w.Choice = one_attribute (attribute_good (codes "combine") (codes "choice") by_combine (plain_text (codes "choice") refl refl))
combine_alone w.Interleave = one_attribute (attribute_good (codes "combine") (codes "interleave") by_combine (plain_text (codes "interleave") refl refl))

-- ---- elements

-- an element of this name, which holds no text
record IsBlock (local : Text) : Type 0 where
  name : IsName local
  no_text : holds_text local ≡ false

block_name : (cs : List ℕ) → encode_utf8_all cs ≡ cs → is_ncname cs ≡ true → holds_text cs ≡ false → IsBlock cs
block_name cs e n h = record { name = word cs e n; no_text = h }

block_good : {local : Text} {a : List Attribute} {k : Items} → IsBlock local → AreSpellableAttributes a → AreSpellableItems k → IsSpellableItem (m.element local a k)
block_good b a k = block b.name a b.no_text k

one_good : {i : Item} → IsSpellableItem i → AreSpellableItems (m.one_item i)
one_good h = s.more h s.none

then_good : {is js : Items} → AreSpellableItems is → AreSpellableItems js → AreSpellableItems (m.items_then is js)
then_good s.none k = k
then_good (s.more h is) k = s.more h (then_good is k)

pick : (b : Bool) (k : Items) (i : Item) → (b ≡ true → AreSpellableItems k) → IsSpellableItem i → AreSpellableItems (cond b k (m.one_item i))
pick true k i f h = f refl
pick false k i f h = one_good h

unwrapped_good : (wrapper : Text) → holds_text wrapper ≡ false → {i : Item} → IsSpellableItem i → AreSpellableItems (m.unwrapped wrapper i)
unwrapped_good wrapper none (line {local = local} {attributes = attributes} {content = content} n a holds k) = pick (bytes_eq local wrapper && m.has_items content) content (node m.rng_uri local attributes content)
    (λ e. absurd (false≢true (sym none ∙ (ap holds_text (sym ((bytes_eq-Decides local wrapper).0 (and_parts (bytes_eq local wrapper) (m.has_items content) e).0)) ∙ holds)))) (line n a holds k)
unwrapped_good wrapper none (block {local = local} {attributes = attributes} {content = content} n a holds k) = pick (bytes_eq local wrapper && m.has_items content) content (node m.rng_uri local attributes content) (λ e. k) (block n a holds k)

grouped_good : {i : Item} → IsSpellableItem i → AreSpellableItems (m.grouped i)
grouped_good h = unwrapped_good (codes "group") refl h

except_good : {i : Item} → IsSpellableItem i → IsSpellableItem (m.except_element i)
unfolding encode is_name_start is_name_char
except_good h = block_good (block_name (codes "except") refl refl refl) no_attributes (unwrapped_good (codes "choice") refl h)

-- ---- texts

-- a text that counts
kept_text : (local t : Text) → keeps_white m.rng_uri local ≡ true → IsXmlText t → IsSpellableText local (m.text_items t)
kept_text local [] e h = s.none
kept_text local (c ∷ cs) e h = s.one h some (ap (λ b. b || not (list_all is_white (c ∷ cs))) e)
  where
    some : c ∷ cs ≢ []
    some q = cc

-- a text that isn't white space
shown_text : (local t : Text) → list_all is_white t ≡ false → IsXmlText t → IsSpellableText local (m.text_items t)
shown_text local [] e h = s.none
shown_text local (c ∷ cs) e h = s.one h some (shown (keeps_white m.rng_uri local) (list_all is_white (c ∷ cs)) e)
  where
    some : c ∷ cs ≢ []
    some q = cc

    shown : (b v : Bool) → v ≡ false → (b || not v) ≡ true
    shown true v e = refl
    shown false true e = cc
    shown false false e = refl

param_good : (e : Text × Text) → IsName e.0 → IsXmlText e.1 → IsSpellableItem (m.param_element e)
unfolding encode is_name_start is_name_char
param_good e n x = line (word (codes "param") refl refl) (one_attribute (attribute_good (codes "name") e.0 by_name (name_text e.0 n))) refl (kept_text (codes "param") e.1 refl x)

params_good : (es : Params) → AreParams es → AreSpellableItems (m.params_xml es)
params_good [] h = s.none
params_good (e ∷ es) h = s.more (param_good e h.0 h.1) (params_good es h.2)

-- ---- names as texts

-- the first character of a name is no white space, and so its first byte
white_first : (c : ℕ) → is_white c ≡ true → is_name_start c ≡ false
unfolding is_name_start
white_first c h1 = grind (arith, nat_tests)

below : (c : ℕ) → is_white c ≡ true → c < 128
below c h1 = grind (arith, nat_tests)

all_white_chars : (t : Text) → list_all is_white t ≡ true → encode_utf8_all t ≡ t
all_white_chars [] w = refl
all_white_chars (c ∷ cs) w = let both = and_parts (is_white c) (list_all is_white cs) w in
    ap (λ front. front ++ encode_utf8_all cs) (encode_ascii c (below c both.0)) ∙ ap (λ rest. c ∷ rest) (all_white_chars cs both.1)

white_is_no_name : (t : Text) → list_all is_white t ≡ true → is_ncname t ≡ false
white_is_no_name [] w = refl
white_is_no_name (c ∷ cs) w = ap (λ b. b && list_all is_name_char cs) (white_first c (and_parts (is_white c) (list_all is_white cs) w).0)

-- a name is no white space
name_shown : (t : Text) → IsName t → list_all is_white t ≡ false
name_shown t n = ⊎_elim (λ w. absurd (false≢true (sym (white_is_no_name t w) ∙ (ap is_ncname (sym (encodes_same (chars t) t (encodes-chars t n.utf8 ∙ sym (all_white_chars t w)))) ∙ n.is)))) (λ e. e) (cases_Bool (list_all is_white t))

qualified_shown : (b : Bool) (local : Text) → IsName local → list_all is_white (cond b (codes "xml:") [] ++ local) ≡ false
qualified_shown true local n = refl
qualified_shown false local n = name_shown local n

module _ (ds : List Declaration) (d : AreGoodDeclarations ds) where
  uri_good : (own : Text) → IsXmlText own → (n : Name) → IsXmlText (m.name_uri ds own n)
  uri_good own x (t.local l) = x
  uri_good own x (t.prefixed p l i) = namespace_xml [] ds xml_nothing d p

  local_good : (n : Name) → IsGoodName n → IsName (m.name_local n)
  local_good (t.local l) h = h
  local_good (t.prefixed p l i) h = h

  -- ---- name classes

  name_good : (around own : Text) → IsXmlText own → (n : Name) → IsGoodName n → IsSpellableItem (m.name_element ds around own n)
  unfolding encode is_name_start is_name_char
  name_good around own x n h = line (word (codes "name") refl refl) (ns_attributes_good around (m.name_uri ds own n) (uri_good own x n)) refl
      (shown_text (codes "name") (m.qualified (m.name_uri ds own n) (m.name_local n)) (qualified_shown (bytes_eq (m.name_uri ds own n) xml_uri) (m.name_local n) (local_good n h))
      (qualified_good (m.name_uri ds own n) (m.name_local n) (local_good n h)))

  any_good : (a : AnyName) {k : Items} → AreSpellableItems k → IsSpellableItem (m.any_element ds a k)
  unfolding encode is_name_start is_name_char
  any_good t.any h = block_good (block_name (codes "anyName") refl refl refl) no_attributes h
  any_good (t.any_of p i) h = block_good (block_name (codes "nsName") refl refl refl) (one_attribute (attribute_good (codes "ns") (namespace_of [] ds p) by_ns (namespace_xml [] ds xml_nothing d p))) h

  choice_block : IsBlock (codes "choice")
  unfolding encode is_name_start is_name_char
  choice_block = block_name (codes "choice") refl refl refl

  module _ (own : Text) (x : IsXmlText own) where
    mutual
      class_good : (c : NameClass) → IsGoodClass c → (around : Text) → IsSpellableItem (m.class_xml ds around own c)
      class_good (t.name n) h around = name_good around own x n h
      class_good (t.all a) h around = any_good a s.none
      class_good (t.all_but a c) h around = any_good a (one_good (except_good (class_good c h (m.any_inside ds around a))))
      class_good (t.choice t.no_classes) h around = absurd h
      class_good (t.choice (t.class c cs)) h around = block_good choice_block no_attributes (s.more (class_good c h.0 around) (classes_good cs h.1 around))

      classes_good : (cs : NameClasses) → AreGoodClasses cs → (around : Text) → AreSpellableItems (m.classes_xml ds around own cs)
      classes_good t.no_classes h around = s.none
      classes_good (t.class c cs) h around = s.more (class_good c h.0 around) (classes_good cs h.1 around)

    class_attributes_good : (taken : Text) (c : NameClass) → IsGoodClass c → AreSpellableAttributes (m.class_attributes ds taken own c)
    class_attributes_good taken (t.name n) h = name_attributes_good taken (m.name_uri ds own n) (m.name_local n) (uri_good own x n) (local_good n h)
    class_attributes_good taken (t.all a) h = no_attributes
    class_attributes_good taken (t.all_but a c) h = no_attributes
    class_attributes_good taken (t.choice cs) h = no_attributes

    class_items_good : (around : Text) (c : NameClass) → IsGoodClass c → AreSpellableItems (m.class_items ds around own c)
    class_items_good around (t.name n) h = s.none
    class_items_good around (t.all a) h = one_good (class_good (t.all a) h around)
    class_items_good around (t.all_but a c) h = one_good (class_good (t.all_but a c) h around)
    class_items_good around (t.choice cs) h = one_good (class_good (t.choice cs) h around)

  -- ---- datatypes

  type_text : (y : Datatype) → IsGoodDatatype y → IsXmlText (type_name [] ds y)
  unfolding encode is_xml_char
  type_text (t.string i) h = plain_text (codes "string") refl refl
  type_text (t.token i) h = plain_text (codes "token") refl refl
  type_text (t.named p l i) h = name_text l h

  type_good : (library : Text) (y : Datatype) → IsGoodDatatype y → AreSpellableAttributes (m.type_attributes ds library y)
  type_good library y h = second_unless (bytes_eq (type_library [] ds y) library) (attribute_good (codes "type") (type_name [] ds y) by_type (type_text y h))
      (attribute_good (codes "datatypeLibrary") (type_library [] ds y) by_library (type_xml [] ds xml_nothing d y)) (apart (codes "type") (codes "datatypeLibrary") refl)

  value_good : (library : Text) (y : Option Datatype) (v : Text) → IsGoodPattern (t.value y v) → IsSpellableItem (m.pattern_xml ds [] library (t.value y v))
  unfolding encode is_name_start is_name_char
  value_good library None v h = line (word (codes "value") refl refl) no_attributes refl (kept_text (codes "value") v refl h)
  value_good library (Some y) v h = line (word (codes "value") refl refl) (type_good library y h.0) refl (kept_text (codes "value") v refl h.1)

  -- ---- patterns

  repetition_block : (f : Postfix) → IsBlock (m.repetition_local f)
  unfolding encode is_name_start is_name_char
  repetition_block r.Question = block_name (codes "optional") refl refl refl
  repetition_block r.Star = block_name (codes "zeroOrMore") refl refl refl
  repetition_block r.Plus = block_name (codes "oneOrMore") refl refl refl

  operator_block : (op : Operator) → IsBlock (m.operator_local op)
  unfolding encode is_name_start is_name_char
  operator_block o.Comma = block_name (codes "group") refl refl refl
  operator_block o.Ampersand = block_name (codes "interleave") refl refl refl
  operator_block o.Bar = block_name (codes "choice") refl refl refl

  content_good : (p : Pattern) (i : Item) → IsSpellableItem i → AreSpellableItems (m.attribute_content p i)
  content_good p i h = pick_none (m.is_text p) i h
    where
      pick_none : (b : Bool) (j : Item) → IsSpellableItem j → AreSpellableItems (cond b no_items (m.one_item j))
      pick_none true j k = s.none
      pick_none false j k = one_good k

  element_block : IsBlock (codes "element")
  unfolding encode is_name_start is_name_char
  element_block = block_name (codes "element") refl refl refl

  attribute_block : IsBlock (codes "attribute")
  unfolding encode is_name_start is_name_char
  attribute_block = block_name (codes "attribute") refl refl refl

  list_block : IsBlock (codes "list")
  unfolding encode is_name_start is_name_char
  list_block = block_name (codes "list") refl refl refl

  mixed_block : IsBlock (codes "mixed")
  unfolding encode is_name_start is_name_char
  mixed_block = block_name (codes "mixed") refl refl refl

  data_block : IsBlock (codes "data")
  unfolding encode is_name_start is_name_char
  data_block = block_name (codes "data") refl refl refl

  leaf_good : (cs : List ℕ) → encode_utf8_all cs ≡ cs → is_ncname cs ≡ true → holds_text cs ≡ false → IsSpellableItem (m.element cs [] no_items)
  leaf_good cs e n h = block_good (block_name cs e n h) no_attributes s.none

  ref_good : (n : Text) → IsName n → IsSpellableItem (m.element (codes "ref") (m.attribute (codes "name") n ∷ []) no_items)
  unfolding encode is_name_start is_name_char
  ref_good n h = block_good (block_name (codes "ref") refl refl refl) (one_attribute (attribute_good (codes "name") n by_name (name_text n h))) s.none

  empty_good : IsSpellableItem (m.element (codes "empty") [] no_items)
  unfolding encode is_name_start is_name_char
  empty_good = leaf_good (codes "empty") refl refl refl

  not_allowed_good : IsSpellableItem (m.element (codes "notAllowed") [] no_items)
  unfolding encode is_name_start is_name_char
  not_allowed_good = leaf_good (codes "notAllowed") refl refl refl

  text_good : IsSpellableItem (m.element (codes "text") [] no_items)
  unfolding encode is_name_start is_name_char
  text_good = leaf_good (codes "text") refl refl refl

  default_good : IsXmlText (default_of [] ds)
  default_good = default_xml [] ds xml_nothing d

  mutual
    pattern_good : (p : Pattern) → IsGoodPattern p → (around library : Text) → IsSpellableItem (m.pattern_xml ds around library p)
    pattern_good (t.element c p) h around library = block_good element_block (class_attributes_good (default_of [] ds) default_good around c h.0)
        (then_good (class_items_good (default_of [] ds) default_good around c h.0) (grouped_good (pattern_good p h.1 (m.class_inside ds around around (default_of [] ds) c) library)))
    pattern_good (t.attribute c p) h around library = block_good attribute_block (class_attributes_good [] xml_nothing [] c h.0)
        (then_good (class_items_good [] xml_nothing around c h.0) (content_good p _ (pattern_good p h.1 (m.class_inside ds around [] [] c) library)))
    pattern_good (t.list p) h around library = block_good list_block no_attributes (grouped_good (pattern_good p h around library))
    pattern_good (t.mixed p) h around library = block_good mixed_block no_attributes (grouped_good (pattern_good p h around library))
    pattern_good t.empty h around library = empty_good
    pattern_good t.not_allowed h around library = not_allowed_good
    pattern_good t.text h around library = text_good
    pattern_good (t.ref x) h around library = ref_good x h
    pattern_good (t.value y v) h around library = value_good library y v h
    pattern_good (t.datum y es) h around library = block_good data_block (type_good library y h.0) (params_good es h.1)
    pattern_good (t.datum_but y es i p) h around library = block_good data_block (type_good library y h.0)
        (then_good (params_good es h.1) (one_good (except_good (pattern_good p h.2 around (type_library [] ds y)))))
    pattern_good (t.repeated f p) h around library = block_good (repetition_block f) no_attributes (grouped_good (pattern_good p h around library))
    pattern_good (t.chain op ps) h around library = block_good (operator_block op) no_attributes (patterns_good ps h around library)

    patterns_good : (ps : Patterns) → AreGoodPatterns ps → (around library : Text) → AreSpellableItems (m.patterns_xml ds around library ps)
    patterns_good t.no_patterns h around library = s.none
    patterns_good (t.pattern p ps) h around library = s.more (pattern_good p h.0 around library) (patterns_good ps h.1 around library)

  -- ---- items

  define_good : (n : Text) (c : Method) (p : Pattern) → IsName n → IsGoodPattern p → IsSpellableItem (m.element (codes "define") (m.attribute (codes "name") n ∷ m.combine_attributes c) (m.grouped (m.body_xml ds p)))
  unfolding encode is_name_start is_name_char
  define_good n c p h k = block_good (block_name (codes "define") refl refl refl) (combine_good c (attribute_good (codes "name") n by_name (name_text n h)) (apart (codes "name") (codes "combine") refl))
      (grouped_good (pattern_good p k [] xsd_uri))

  start_good : (c : Method) (p : Pattern) → IsGoodPattern p → IsSpellableItem (m.element (codes "start") (m.combine_attributes c) (m.one_item (m.body_xml ds p)))
  unfolding encode is_name_start is_name_char
  start_good c p k = block_good (block_name (codes "start") refl refl refl) (combine_alone c) (one_good (pattern_good p k [] xsd_uri))

  div_block : IsBlock (codes "div")
  unfolding encode is_name_start is_name_char
  div_block = block_name (codes "div") refl refl refl

  mutual
    items_good : (xs : t.Items) → AreGoodItems xs → AreSpellableItems (m.items_xml ds xs)
    items_good t.no_items h = s.none
    items_good (t.item x xs) h = then_good (item_good x h.0) (items_good xs h.1)

    item_good : (x : t.Item) → IsGoodItem x → AreSpellableItems (m.item_xml ds x)
    item_good (t.define n c p) h = one_good (define_good n c p h.0 h.1)
    item_good (t.start c p) h = one_good (start_good c p h)
    item_good (t.div xs) h = one_good (block_good div_block no_attributes (items_good xs h))
    item_good (t.include l i xs) h = s.none

grammar_good : (x : Module) → IsGoodModule x → IsSpellableRoot (m.xml_of x)
unfolding encode is_name_start is_name_char
grammar_good x h = root (word (codes "grammar") refl refl) (one_attribute (attribute_good (codes "datatypeLibrary") xsd_uri by_library xsd_library)) refl (items_good x.declarations h.declarations x.items h.items)

-- the element of each module that a text has can be written
pub text_spellable : (cs : List ℕ) (tokens : List Lexeme) (x : Module) → HasTokens cs tokens → HasTree (terminals tokens) x → IsSpellableRoot (m.xml_of x)
text_spellable cs tokens x has tree = grammar_good x (module_good tree (tokens_good cs tokens has))
