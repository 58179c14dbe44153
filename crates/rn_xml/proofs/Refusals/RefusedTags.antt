-- Start tags that are none.
use Rattle.std.proofs.Common.{◌≡◌, ℕ, true, false, List, [], ◌∷◌, ◌++◌, refl, sym, ap, ◌∙◌, subst, None}
use Rattle.std.specs.Prelude.{◌==◌, All, encode_utf8_all}
use Rattle.std.specs.Str.{chars, IsUtf8}
use Rattle.std.proofs.lemmas.Bool.{true≢false}
use Rattle.std.proofs.lemmas.Option.{none-some}
use Rattle.std.proofs.lemmas.Str.{encodes-chars}
use Rattle.rn_text.specs.Characters.{is_name_start}
use Rattle.rn_text.specs.Segments.{begins_with, after_run}
use Rattle.rn_text.specs.Texts.{is_white}
use Rattle.rn_text.proofs.Words.EqualLists.{cons_rest}
use Rattle.rn_xml.specs.Infoset.{Name, Attribute, Binding}
use Rattle.rn_xml.specs.XmlCharacters.{lines_of, MaySpace}
use Rattle.rn_xml.specs.XmlTags.{WrittenAttribute, Scope, MayBind, AreAttributes, AreDistinct, AreNamed, IsTagFront, bindings, uri_in}
use Rattle.rn_xml.specs.declared.characters.QName.{QName}
use Rattle.rn_xml.specs.inside.Fronts.{BeginsName, ends_name, closes_tag, ends_attributes}
use Rattle.rn_xml.specs.inside.OpenElements.{LacksTag}
use Rattle.rn_xml.specs.inside.Pieces.{SplitsName}
use Rattle.rn_xml.specs.inside.TagTables.{LackNames, LacksAttributes}
use Rattle.rn_xml.specs.inside.WrittenAttributes.{AreSpacedAttributes}
use Rattle.rn_xml.proofs.Decoding.DeclarationFields.{white_run, white_all}
use Rattle.rn_xml.proofs.Refusals.OneReading.Names.{qname_once, SameName}
use Rattle.rn_xml.proofs.Refusals.OneReading.Tags.{front_ends, attributes_once, end_black, end_stops}
use Rattle.rn_xml.proofs.Refusals.RefusedAttributes.{closes_end}
use Rattle.rn_xml.proofs.Refusals.RefusedFronts.{lines_begin}
use Rattle.rn_xml.proofs.Sources.{inner_itself}

pub opened_lines : (cs inside : List ℕ) → cs ≡ 60 ∷ inside → lines_of cs ≡ 60 ∷ lines_of inside
opened_lines cs inside e = ap lines_of e ∙ inner_itself 60 inside refl

-- nothing but `<` begins a tag
pub no_bracket : (scope : Scope) (cs : List ℕ) → begins_with (λ d. d == 60) cs ≡ false → LacksTag scope (lines_of cs)
no_bracket scope cs none qname name bound attributes rest front closes = true≢false (ap (begins_with (λ d. d == 60)) (sym front.opens) ∙ lines_begin (λ d. d == 60) cs refl none)

-- the name of a front ends
ends_front : (scope : Scope) (cs qname : List ℕ) (name : Name) (bound : List Binding) (attributes : List Attribute) (rest : List ℕ) (front : IsTagFront scope cs qname name bound attributes rest) → closes_tag rest ≡ true → ends_name front.behind_name ≡ true
ends_front scope cs qname name bound attributes rest front closes =
    let end = closes_end rest closes in
    front_ends scope cs qname name bound attributes end.sign end.rest (record {
      prefix = front.prefix;
      local = front.local;
      behind_name = front.behind_name;
      behind_attributes = front.behind_attributes;
      written = front.written;
      opens = front.opens;
      is_name = front.is_name;
      are_attributes = front.are_attributes;
      space = subst (MaySpace front.behind_attributes) end.is front.space;
      declares = front.declares;
      may_bind = front.may_bind;
      distinct = front.distinct;
      has_prefix = front.has_prefix;
      has_local = front.has_local;
      has_uri = front.has_uri;
      are_named = front.are_named;
      unique = front.unique;
    }) end.ends

pub no_tag_name : (scope : Scope) (cs inside : List ℕ) → cs ≡ 60 ∷ inside → ((written prefix local behind : List ℕ) → ¬ BeginsName inside written prefix local behind) → LacksTag scope cs
no_tag_name scope cs inside whole none qname name bound attributes rest front closes =
    none qname front.prefix front.local front.behind_name (record { is_name = front.is_name; splits = cons_rest (sym whole ∙ front.opens); ends = ends_front scope cs qname name bound attributes rest front closes })

fin_run : (mid fin : List ℕ) → MaySpace mid fin → ends_attributes fin ≡ true → after_run is_white mid ≡ fin
fin_run mid [] space ends = white_all mid space
fin_run mid (c ∷ fin) space ends = white_run mid fin c (end_black c ends) space

fin_stops : (fin : List ℕ) → ends_attributes fin ≡ true → begins_with is_name_start fin ≡ false
fin_stops [] ends = refl
fin_stops (c ∷ fin) ends = end_stops c fin ends

-- a tag that begins with this name
module _ (scope : Scope) (cs inside behind : List ℕ) (name : QName) (whole : cs ≡ 60 ∷ inside) (splits : SplitsName inside name behind) (name_ends : ends_name behind ≡ true) where
  same_name : (qname : List ℕ) (n : Name) (bound : List Binding) (attributes : List Attribute) (rest : List ℕ) (front : IsTagFront scope cs qname n bound attributes rest) → closes_tag rest ≡ true
      → SameName qname front.prefix front.local front.behind_name splits.written (chars name.prefix.now) (chars name.local.now) behind
  same_name qname n bound attributes rest front closes = qname_once qname front.prefix front.local front.behind_name splits.written (chars name.prefix.now) (chars name.local.now) behind front.is_name splits.is_name
      (ends_front scope cs qname n bound attributes rest front closes) name_ends (cons_rest (sym front.opens ∙ whole) ∙ splits.splits)

  pub no_tag_attributes : LacksAttributes behind → LacksTag scope cs
  no_tag_attributes none qname n bound attributes rest front closes =
      let same = same_name qname n bound attributes rest front closes in
      none front.written rest (record { mid = front.behind_attributes; are = subst (λ l. AreAttributes l front.written front.behind_attributes) same.behind front.are_attributes; space = front.space; closes = closes })
      (subst (All MayBind) front.declares front.may_bind) (subst AreDistinct front.declares front.distinct)

  -- and goes on with these attributes
  module _ (written : List WrittenAttribute) (fin : List ℕ) (spaced : AreSpacedAttributes behind written fin) (ends : ends_attributes fin ≡ true) where
    same_rest : (qname : List ℕ) (n : Name) (bound : List Binding) (attributes : List Attribute) (rest : List ℕ) (front : IsTagFront scope cs qname n bound attributes rest) → closes_tag rest ≡ true → (front.written ≡ written) × (fin ≡ rest)
    same_rest qname n bound attributes rest front closes =
        let same = same_name qname n bound attributes rest front closes in
        let end = closes_end rest closes in
        let both = attributes_once behind written front.written spaced.0 front.behind_attributes end.rest fin end.sign spaced.1 spaced.2 (fin_stops fin ends) (subst (λ l. AreAttributes l front.written front.behind_attributes) same.behind front.are_attributes)
        (subst (MaySpace front.behind_attributes) end.is front.space) end.ends (fin_run spaced.0 fin spaced.2 ends) in
        (both.0, both.1 ∙ sym end.is)

    pub no_tag_close : closes_tag fin ≡ false → LacksTag scope cs
    no_tag_close none qname n bound attributes rest front closes = true≢false (sym closes ∙ ap closes_tag (sym (same_rest qname n bound attributes rest front closes).1) ∙ none)

    pub no_tag_uri : IsUtf8 name.prefix.now → uri_in (bindings written ++ scope) name.prefix.now ≡ None → LacksTag scope cs
    no_tag_uri utf8 none qname n bound attributes rest front closes =
        let same = same_name qname n bound attributes rest front closes in
        let prefix : encode_utf8_all front.prefix ≡ name.prefix.now = ap encode_utf8_all same.prefix ∙ encodes-chars name.prefix.now utf8 in
        let is : bound ≡ bindings written = front.declares ∙ ap bindings (same_rest qname n bound attributes rest front closes).0 in
        none-some n.uri (sym none ∙ ap (λ b. uri_in (b ++ scope) name.prefix.now) (sym is) ∙ ap (uri_in (bound ++ scope)) (sym prefix) ∙ front.has_uri)

    pub no_tag_names : LackNames (bindings written ++ scope) written → LacksTag scope cs
    no_tag_names none qname n bound attributes rest front closes =
        let w = (same_rest qname n bound attributes rest front closes).0 in
        let is : bound ≡ bindings written = front.declares ∙ ap bindings w in
        none attributes (subst (λ l. AreNamed (bindings written ++ scope) l attributes) w (subst (λ b. AreNamed (b ++ scope) front.written attributes) is front.are_named)) front.unique
