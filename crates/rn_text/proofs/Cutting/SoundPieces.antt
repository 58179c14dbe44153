-- Pieces that are the parts of their text, whatever stands behind, or before a break.
use Rattle.std.proofs.Common.{arith, ◌≡◌, ℕ, true, false, List, [], ◌∷◌, ◌++◌, refl, sym, ap, ◌∙◌, subst, append_assoc, append-nil}
use Rattle.std.proofs.lemmas.Bool.Decides.{nat_tests}
use Rattle.std.specs.Prelude.{not}
use Rattle.std.specs.List.{list_all}
use Rattle.std.proofs.lemmas.Bool.{and_from}
use Rattle.rn_text.specs.declared.parts.Part.TheVariants.{Space, Token}
use Rattle.rn_text.specs.declared.parts.Kind.TheVariants.{Name, Keyword, Quoted, Prefixed, AnyOf, Segment, Symbol}
use Rattle.rn_text.specs.Characters.{is_xml_char, is_ncname, is_keyword}
use Rattle.rn_text.specs.Literals.{delimited}
use Rattle.rn_text.specs.Parts.{IsFirstPart, Piece, IsCut, text_of, is_symbol}
use Rattle.rn_text.specs.Texts.{is_white}
use Rattle.rn_text.proofs.Cutting.FirstParts.{white_first, keyword_is_name}
use Rattle.rn_text.proofs.Cutting.BeforeBreaks.{is_break, is_solo, name_before, prefixed_before, any_before, quoted_before, symbol_before, solo_before, segment_before}
use Rattle.rn_text.proofs.Quoting.SegmentTexts.{Together}
use Rattle.rn_text.proofs.Quoting.DelimitedRuns.{delimited_segment, delimited_xml}
use Rattle.rn_text.proofs.Words.AppendedLists.{all_append}
use Rattle.rn_text.proofs.Words.XmlNames.{ncname_xml}

-- the pieces are the parts of their text before a break, and their characters are of XML
pub record Sound (ps : List Piece) : Type 0 where
  pub before : (b : ℕ) (rest : List ℕ) → is_break b ≡ true → IsCut (text_of ps ++ b ∷ rest) ps (b ∷ rest)
  pub xml : list_all is_xml_char (text_of ps) ≡ true

-- the pieces are the parts of their text whatever follows, and their characters are of XML
pub record Free (ps : List Piece) : Type 0 where
  pub before : (rest : List ℕ) → IsCut (text_of ps ++ rest) ps rest
  pub xml : list_all is_xml_char (text_of ps) ≡ true

-- the pieces' text begins with a break
pub record Breaks (ps : List Piece) : Type 0 where
  pub first : ℕ
  pub more : List ℕ
  pub is : text_of ps ≡ first ∷ more
  pub breaks : is_break first ≡ true

pub free_sound : {ps : List Piece} → Free ps → Sound ps
free_sound h = record { before = λ b rest e. h.before (b ∷ rest); xml = h.xml }

pub text_of-append : (ps qs : List Piece) → text_of (ps ++ qs) ≡ text_of ps ++ text_of qs
text_of-append [] qs = refl
text_of-append (p ∷ ps) qs = ap (λ l. p.spelling ++ l) (text_of-append ps qs) ∙ sym (append_assoc p.spelling (text_of ps) (text_of qs))

pub cut_then : (text : List ℕ) (ps : List Piece) (mid : List ℕ) (qs : List Piece) (rest : List ℕ) → IsCut text ps mid → IsCut mid qs rest → IsCut text (ps ++ qs) rest
cut_then text [] mid qs rest e h = subst (λ t. IsCut t qs rest) (sym e) h
cut_then text (p ∷ ps) mid qs rest (after, first, more) h = (after, first, cut_then after ps mid qs rest more h)

xml_then : (ps qs : List Piece) → list_all is_xml_char (text_of ps) ≡ true → list_all is_xml_char (text_of qs) ≡ true → list_all is_xml_char (text_of (ps ++ qs)) ≡ true
xml_then ps qs x y = ap (list_all is_xml_char) (text_of-append ps qs) ∙ all_append is_xml_char (text_of ps) (text_of qs) x y

joins : (ps qs : List Piece) (rest : List ℕ) → IsCut (text_of ps ++ (text_of qs ++ rest)) ps (text_of qs ++ rest) → IsCut (text_of qs ++ rest) qs rest → IsCut (text_of (ps ++ qs) ++ rest) (ps ++ qs) rest
joins ps qs rest h1 h2 = grind (arith, nat_tests, append_assoc, cut_then, text_of-append)

behind : (ps qs : List Piece) (rest : List ℕ) → Sound ps → Breaks qs → IsCut (text_of ps ++ (text_of qs ++ rest)) ps (text_of qs ++ rest)
behind ps qs rest s b = subst (λ t. IsCut (text_of ps ++ t) ps t) (sym (ap (λ l. l ++ rest) b.is)) (s.before b.first (b.more ++ rest) b.breaks)

-- closed under joining
pub free_then : {ps qs : List Piece} → Free ps → Sound qs → Sound (ps ++ qs)
free_then {ps = ps} {qs = qs} f s = record { before = λ b rest e. joins ps qs (b ∷ rest) (f.before (text_of qs ++ b ∷ rest)) (s.before b rest e); xml = xml_then ps qs f.xml s.xml }

pub free_free : {ps qs : List Piece} → Free ps → Free qs → Free (ps ++ qs)
free_free {ps = ps} {qs = qs} f s = record { before = λ rest. joins ps qs rest (f.before (text_of qs ++ rest)) (s.before rest); xml = xml_then ps qs f.xml s.xml }

pub sound_then : {ps qs : List Piece} → Sound ps → Breaks qs → Sound qs → Sound (ps ++ qs)
sound_then {ps = ps} {qs = qs} f b s = record { before = λ c rest e. joins ps qs (c ∷ rest) (behind ps qs (c ∷ rest) f b) (s.before c rest e); xml = xml_then ps qs f.xml s.xml }

pub sound_free : {ps qs : List Piece} → Sound ps → Breaks qs → Free qs → Free (ps ++ qs)
sound_free {ps = ps} {qs = qs} f b s = record { before = λ rest. joins ps qs rest (behind ps qs rest f b) (s.before rest); xml = xml_then ps qs f.xml s.xml }

pub no_pieces : Free []
no_pieces = record { before = λ rest. refl; xml = refl }

-- ---- single pieces

piece_cut : (p : Piece) (rest : List ℕ) → IsFirstPart (p.spelling ++ rest) p.part p.spelling rest → IsCut (text_of (p ∷ []) ++ rest) (p ∷ []) rest
piece_cut p rest h = (rest, subst (λ t. IsFirstPart (t ++ rest) p.part p.spelling rest) (sym (append-nil p.spelling)) h, refl)

one_xml : (p : Piece) → list_all is_xml_char p.spelling ≡ true → list_all is_xml_char (text_of (p ∷ [])) ≡ true
one_xml p h = ap (list_all is_xml_char) (append-nil p.spelling) ∙ h

one_free : (p : Piece) → list_all is_xml_char p.spelling ≡ true → ((rest : List ℕ) → IsFirstPart (p.spelling ++ rest) p.part p.spelling rest) → Free (p ∷ [])
one_free p x h = record { before = λ rest. piece_cut p rest (h rest); xml = one_xml p x }

one_sound : (p : Piece) → list_all is_xml_char p.spelling ≡ true → ((b : ℕ) (rest : List ℕ) → is_break b ≡ true → IsFirstPart (p.spelling ++ b ∷ rest) p.part p.spelling (b ∷ rest)) → Sound (p ∷ [])
one_sound p x h = record { before = λ b rest e. piece_cut p (b ∷ rest) (h b rest e); xml = one_xml p x }

pub white_free : (c : ℕ) → is_white c ≡ true → list_all is_xml_char (c ∷ []) ≡ true → Free (record { part = Space; spelling = c ∷ [] } ∷ [])
white_free c w x = one_free (record { part = Space; spelling = c ∷ [] }) x (λ rest. white_first c rest w)

pub solo_free : (c : ℕ) → is_symbol (c ∷ []) ≡ true → is_solo c ≡ true → list_all is_xml_char (c ∷ []) ≡ true → Free (record { part = Token Symbol; spelling = c ∷ [] } ∷ [])
solo_free c w s x = one_free (record { part = Token Symbol; spelling = c ∷ [] }) x (λ rest. solo_before c rest w s)

pub symbol_sound : (s : List ℕ) → is_symbol s ≡ true → list_all is_xml_char s ≡ true → Sound (record { part = Token Symbol; spelling = s } ∷ [])
symbol_sound s w x = one_sound (record { part = Token Symbol; spelling = s }) x (λ b rest e. symbol_before s b rest w e)

pub keyword_sound : (s : List ℕ) → is_keyword s ≡ true → Sound (record { part = Token Keyword; spelling = s } ∷ [])
keyword_sound s w = one_sound (record { part = Token Keyword; spelling = s }) (ncname_xml s (keyword_is_name s w)) (λ b rest e. name_before Keyword s b rest refl (keyword_is_name s w) w e)

pub name_sound : (s : List ℕ) → is_ncname s ≡ true → is_keyword s ≡ false → Sound (record { part = Token Name; spelling = s } ∷ [])
name_sound s w k = one_sound (record { part = Token Name; spelling = s }) (ncname_xml s w) (λ b rest e. name_before Name s b rest refl w (and_from (is_ncname s) (not (is_keyword s)) w (ap not k)) e)

pub quoted_sound : (s : List ℕ) → is_ncname s ≡ true → Sound (record { part = Token Quoted; spelling = 92 ∷ s } ∷ [])
unfolding is_xml_char
quoted_sound s w = one_sound (record { part = Token Quoted; spelling = 92 ∷ s }) (and_from (is_xml_char 92) (list_all is_xml_char s) refl (ncname_xml s w)) (λ b rest e. quoted_before s b rest w e)

pub prefixed_sound : (p l : List ℕ) → is_ncname p ≡ true → is_ncname l ≡ true → Sound (record { part = Token Prefixed; spelling = p ++ 58 ∷ l } ∷ [])
unfolding is_xml_char
prefixed_sound p l x y = one_sound (record { part = Token Prefixed; spelling = p ++ 58 ∷ l }) (all_append is_xml_char p (58 ∷ l) (ncname_xml p x) (and_from (is_xml_char 58) (list_all is_xml_char l) refl (ncname_xml l y))) (λ b rest e. prefixed_before p l b rest x y e)

pub any_free : (p : List ℕ) → is_ncname p ≡ true → Free (record { part = Token AnyOf; spelling = p ++ 58 ∷ 42 ∷ [] } ∷ [])
unfolding is_xml_char
any_free p x = one_free (record { part = Token AnyOf; spelling = p ++ 58 ∷ 42 ∷ [] }) (all_append is_xml_char p (58 ∷ 42 ∷ []) (ncname_xml p x) refl) (λ rest. any_before p rest x)

pub segment_sound : (s : List ℕ) → Together s → list_all is_xml_char s ≡ true → Sound (record { part = Token Segment; spelling = delimited s } ∷ [])
segment_sound s t x = one_sound (record { part = Token Segment; spelling = delimited s }) (delimited_xml s x) (λ b rest e. segment_before (delimited s) b rest (delimited_segment s t) e)
