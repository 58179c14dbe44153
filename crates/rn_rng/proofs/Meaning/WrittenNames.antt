-- A name is in the namespace that is written with it, or that it has without one (RELAX NG 2001, 4.8 to 4.10).
use Rattle.std.proofs.Common.{◌≡◌, Bool, true, false, not, cond, [], ◌∷◌, ◌++◌, refl, sym, ap, ◌∙◌, Some, None}
use Rattle.std.specs.Prelude.{◌&&◌, codes, bytes_eq, unwrap_or}
use Rattle.std.proofs.lemmas.Slice.Eq.{bytes_eq-Decides}
use Rattle.rn_text.specs.Texts.{Text}
use Rattle.rn_pattern.specs.Tree.{name}
use Rattle.rn_syntax.specs.Places.{xml_uri}
use Rattle.rn_assemble.specs.WritableTexts.{IsName}
use Rattle.rn_rng.specs.Translation.{attribute, text_items, qualified, needs_ns, ns_attributes, name_attributes, ns_inside, library_attributes}
use Rattle.rn_rng.specs.SchemaElements.{attribute_value, trimmed, held_string, library_in, ns_in, qualified_name}
use Rattle.rn_rng.proofs.Meaning.PlainNames.{name_black, trimmed_stays, trimmed_name, plain_name}

-- the text that an element holds
pub held_text : (s : Text) → held_string (text_items s) ≡ Some s
held_text [] = refl
held_text (c ∷ s) = refl

-- ---- one attribute, or none

pub at_ns : (b : Bool) (ns uri : Text) → unwrap_or (attribute_value (codes "ns") (cond b (attribute (codes "ns") uri ∷ []) [])) ns ≡ cond b uri ns
at_ns true ns uri = refl
at_ns false ns uri = refl

no_library : (b : Bool) (uri : Text) → attribute_value (codes "datatypeLibrary") (cond b (attribute (codes "ns") uri ∷ []) []) ≡ None
no_library true uri = refl
no_library false uri = refl

no_ns : (b : Bool) (uri : Text) → attribute_value (codes "ns") (cond b [] (attribute (codes "datatypeLibrary") uri ∷ [])) ≡ None
no_ns true uri = refl
no_ns false uri = refl

at_library : (b : Bool) (library uri : Text) → bytes_eq uri library ≡ b → unwrap_or (attribute_value (codes "datatypeLibrary") (cond b [] (attribute (codes "datatypeLibrary") uri ∷ []))) library ≡ uri
at_library true library uri e = sym ((bytes_eq-Decides uri library).0 e)
at_library false library uri e = refl

-- ---- what is inherited in an element with a name

-- the nearest `ns` in it; taken: what the name would have without `ns`
pub ns_of_name : (ns taken uri local : Text) → ns_in ns (name_attributes taken uri local) ≡ ns_inside ns taken uri
ns_of_name ns taken uri local = at_ns (needs_ns taken uri) ns uri

pub library_of_name : (library taken uri local : Text) → library_in library (name_attributes taken uri local) ≡ library
library_of_name library taken uri local = ap (λ o. unwrap_or o library) (no_library (needs_ns taken uri) uri)

pub library_of_type : (library type uri : Text) → library_in library (attribute (codes "type") type ∷ library_attributes library uri) ≡ uri
library_of_type library type uri = at_library (bytes_eq uri library) library uri refl

pub ns_of_type : (ns library type uri : Text) → ns_in ns (attribute (codes "type") type ∷ library_attributes library uri) ≡ ns
ns_of_type ns library type uri = ap (λ o. unwrap_or o ns) (no_ns (bytes_eq uri library) uri)

-- ---- names

module _ (taken uri local : Text) (n : IsName local) where
  -- with its prefix, where it is in the namespace of XML
  in_xml : (front : Text) → uri ≡ xml_uri → qualified_name front (trimmed (codes "xml:" ++ local)) ≡ Some (name uri local)
  in_xml front e = ap (qualified_name front) (trimmed_stays (codes "xml:" ++ local) (name_black local n)) ∙ ap (λ u. Some (name u local)) (sym e)

  in_namespace : (ns : Text) → qualified_name ns (trimmed local) ≡ Some (name ns local)
  in_namespace ns = ap (qualified_name ns) (trimmed_name local n) ∙ plain_name ns local n

  named_at : (x y : Bool) → bytes_eq uri xml_uri ≡ x → bytes_eq uri taken ≡ y
      → qualified_name (unwrap_or (attribute_value (codes "ns") (cond (not y && not x) (attribute (codes "ns") uri ∷ []) [])) taken) (trimmed (cond x (codes "xml:") [] ++ local)) ≡ Some (name uri local)
  named_at true true e f = in_xml taken ((bytes_eq-Decides uri xml_uri).0 e)
  named_at true false e f = in_xml taken ((bytes_eq-Decides uri xml_uri).0 e)
  named_at false true e f = in_namespace taken ∙ ap (λ u. Some (name u local)) (sym ((bytes_eq-Decides uri taken).0 f))
  named_at false false e f = in_namespace uri

  -- taken: the namespace that the name has without `ns`
  pub written_name : qualified_name (unwrap_or (attribute_value (codes "ns") (ns_attributes taken uri)) taken) (trimmed (qualified uri local)) ≡ Some (name uri local)
  written_name = named_at (bytes_eq uri xml_uri) (bytes_eq uri taken) refl refl
