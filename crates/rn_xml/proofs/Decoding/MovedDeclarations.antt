-- What is behind the declaration of an encoding doesn't count for it, and what is before that is ASCII.
use Rattle.std.specs.Cmp.Derive.{both_true}
use Rattle.std.proofs.Common.{◌≡◌, ℕ, ◌<◌, Bool, true, false, cond, List, [], ◌∷◌, ◌++◌, refl, sym, ap, ◌∙◌, subst, arith, append_assoc, codes}
use Rattle.std.specs.Prelude.{◌==◌}
use Rattle.std.specs.Char.{is_ascii}
use Rattle.std.specs.List.{list_all}
use Rattle.std.specs.Str.{IsUtf8, chars, encode_utf8_all}
use Rattle.std.proofs.lemmas.Bool.{and_parts, eqb-true}
use Rattle.std.proofs.lemmas.Bool.Decides.{nat_tests}
use Rattle.std.proofs.lemmas.Str.{encodes-chars, encodes-append, encodes-IsAscii, encode_ascii}
use Rattle.rn_text.specs.Segments.{begins_with, is_delimiter}
use Rattle.rn_text.specs.Texts.{is_white}
use Rattle.rn_text.proofs.Words.AppendedLists.{all_append, all_parts}
use Rattle.rn_xml.specs.XmlCharacters.{lines_of, MaySpace, IsSpace}
use Rattle.rn_xml.specs.XmlCharacters as x
use Rattle.rn_xml.specs.XmlTags.{IsEq}
use Rattle.rn_xml.specs.XmlTags as tags
use Rattle.rn_xml.specs.XmlDocuments.{IsQuoted, IsVersionInfo}
use Rattle.rn_xml.specs.XmlDocuments as d
use Rattle.rn_xml.specs.Encodings.{NamesEncoding}
use Rattle.rn_xml.specs.Encodings as e
use Rattle.rn_xml.specs.inside.Pieces.{IsNamedField, normal}
use Rattle.rn_xml.proofs.AsciiFronts.{ascii_bytes}
use Rattle.rn_xml.proofs.AttributeValues.{delimiter_inner}
use Rattle.rn_xml.proofs.Decoding.DeclaredEncodings.{plain_chars, digits_ascii}
use Rattle.rn_xml.proofs.Sources.{lines_step, lines_parted, normal_cases}

-- characters of ASCII in front of a rest, and the same in front of any other
record IsMoved (P : List ℕ → List ℕ → Type 0) (cs rest : List ℕ) : Type 0 where
  front : List ℕ
  splits : cs ≡ front ++ rest
  ascii : list_all is_ascii front ≡ true
  moves : (r : List ℕ) → P (front ++ r) r

white_ascii : (c : ℕ) → is_white c ≡ true → is_ascii c ≡ true
white_ascii c w = grind (arith, nat_tests)

space_moved : (cs rest : List ℕ) → MaySpace cs rest → IsMoved MaySpace cs rest
space_moved cs rest x.MaySpace.none = record { front = []; splits = refl; ascii = refl; moves = λ r. x.MaySpace.none }
space_moved (c ∷ cs) rest (x.MaySpace.white w m) =
    let more = space_moved cs rest m in
    record {
      front = c ∷ more.front;
      splits = ap (λ l. c ∷ l) more.splits;
      ascii = both_true (white_ascii c w) more.ascii;
      moves = λ r. x.MaySpace.white w (more.moves r);
    }

some_space_moved : (cs rest : List ℕ) → IsSpace cs rest → IsMoved IsSpace cs rest
some_space_moved [] rest h = elim h [ ]
some_space_moved (c ∷ cs) rest (x.IsSpace.white w m) =
    let more = space_moved cs rest m in
    record {
      front = c ∷ more.front;
      splits = ap (λ l. c ∷ l) more.splits;
      ascii = both_true (white_ascii c w) more.ascii;
      moves = λ r. x.IsSpace.white w (more.moves r);
    }

-- a quoted value, by its quote
record IsBetween (cs value rest : List ℕ) : Type 0 where
  quote : ℕ
  is_quote : is_delimiter quote ≡ true
  splits : cs ≡ quote ∷ (value ++ quote ∷ rest)
  moves : (r : List ℕ) → IsQuoted (quote ∷ (value ++ quote ∷ r)) value r

between : (cs value rest : List ℕ) → IsQuoted cs value rest → IsBetween cs value rest
between cs value rest d.IsQuoted.double = record { quote = 34; is_quote = refl; splits = refl; moves = λ r. d.IsQuoted.double }
between cs value rest d.IsQuoted.single = record { quote = 39; is_quote = refl; splits = refl; moves = λ r. d.IsQuoted.single }

-- a field up to its last quote
record IsMovedField (name cs value rest : List ℕ) : Type 0 where
  front : List ℕ
  quote : ℕ
  is_quote : is_delimiter quote ≡ true
  splits : cs ≡ front ++ quote ∷ rest
  ascii : list_all is_ascii front ≡ true
  moves : (r : List ℕ) → IsNamedField name (front ++ quote ∷ r) value r

quote_ascii : (q : ℕ) → is_delimiter q ≡ true → is_ascii q ≡ true
quote_ascii q h = grind (arith, nat_tests)

field_moved : (name cs value rest : List ℕ) → list_all is_ascii name ≡ true → list_all is_ascii value ≡ true → IsNamedField name cs value rest → IsMovedField name cs value rest
field_moved name cs value rest n v f = moved f.equals
  where
    moved : IsEq f.mid f.after → IsMovedField name cs value rest
    moved (tags.IsEq.equals {mid = b} before behind) =
        let s = some_space_moved cs (name ++ f.mid) f.space in
        let e1 = space_moved f.mid (61 ∷ b) before in
        let e2 = space_moved b f.after behind in
        let q = between f.after value rest f.quoted in
        let front = s.front ++ (name ++ (e1.front ++ 61 ∷ (e2.front ++ q.quote ∷ value))) in
        let spread : (r : List ℕ) → front ++ q.quote ∷ r ≡ s.front ++ (name ++ (e1.front ++ 61 ∷ (e2.front ++ q.quote ∷ (value ++ q.quote ∷ r)))) = λ r. simp append_assoc in
        record {
          front = front;
          quote = q.quote;
          is_quote = q.is_quote;
          splits = s.splits
              ∙ ap (λ l. s.front ++ (name ++ l)) (e1.splits ∙ ap (λ l. e1.front ++ 61 ∷ l) (e2.splits ∙ ap (λ l. e2.front ++ l) q.splits))
              ∙ sym (spread rest);
          ascii = all_append is_ascii s.front (name ++ (e1.front ++ 61 ∷ (e2.front ++ q.quote ∷ value))) s.ascii
              (all_append is_ascii name (e1.front ++ 61 ∷ (e2.front ++ q.quote ∷ value)) n
              (all_append is_ascii e1.front (61 ∷ (e2.front ++ q.quote ∷ value)) e1.ascii
              (all_append is_ascii e2.front (q.quote ∷ value) e2.ascii
              (both_true (quote_ascii q.quote q.is_quote) v))));
          moves = λ r. subst (λ l. IsNamedField name l value r) (sym (spread r)) (record {
            mid = e1.front ++ 61 ∷ (e2.front ++ q.quote ∷ (value ++ q.quote ∷ r));
            after = q.quote ∷ (value ++ q.quote ∷ r);
            space = s.moves (name ++ (e1.front ++ 61 ∷ (e2.front ++ q.quote ∷ (value ++ q.quote ∷ r))));
            equals = tags.IsEq.equals (e1.moves (61 ∷ (e2.front ++ q.quote ∷ (value ++ q.quote ∷ r)))) (e2.moves (q.quote ∷ (value ++ q.quote ∷ r)));
            quoted = q.moves r;
          });
        }

-- the declaration up to the quote behind the encoding
record IsMovedName (cs name : List ℕ) : Type 0 where
  front : List ℕ
  quote : ℕ
  rest : List ℕ
  is_quote : is_delimiter quote ≡ true
  splits : cs ≡ front ++ quote ∷ rest
  ascii : list_all is_ascii front ≡ true
  moves : (r : List ℕ) → NamesEncoding (front ++ quote ∷ r) name

named_field : (name cs value rest mid after : List ℕ) → IsSpace cs (name ++ mid) → IsEq mid after → IsQuoted after value rest → IsNamedField name cs value rest
named_field name cs value rest mid after s q v = record { mid = mid; after = after; space = s; equals = q; quoted = v }

name_moved : (cs name : List ℕ) → NamesEncoding cs name → IsMovedName cs name
name_moved cs name (e.NamesEncoding.names {cs = inside} {mid = m} {after = a} {behind = b} {rest = r} (d.IsVersionInfo.version {number = n} {mid = vm} {after = va} vs vq vv vn) es eq en ee) =
    let v = field_moved (codes "version") inside n m refl (digits_ascii n vn) (named_field (codes "version") inside n m vm va vs vq vv) in
    let f = field_moved (codes "encoding") m name r refl (plain_chars name ee).0 (named_field (codes "encoding") m name r a b es eq en) in
    let front = codes "<?xml" ++ (v.front ++ v.quote ∷ f.front) in
    let spread : (l : List ℕ) → front ++ f.quote ∷ l ≡ codes "<?xml" ++ (v.front ++ v.quote ∷ (f.front ++ f.quote ∷ l)) = λ l. simp append_assoc in
    record {
      front = front;
      quote = f.quote;
      rest = r;
      is_quote = f.is_quote;
      splits = ap (λ l. codes "<?xml" ++ l) (v.splits ∙ ap (λ l. v.front ++ v.quote ∷ l) f.splits) ∙ sym (spread r);
      ascii = all_append is_ascii (codes "<?xml") (v.front ++ v.quote ∷ f.front) refl
          (all_append is_ascii v.front (v.quote ∷ f.front) v.ascii (both_true (quote_ascii v.quote v.is_quote) f.ascii));
      moves = λ l. subst (λ k. NamesEncoding k name) (sym (spread l))
          (let w = v.moves (f.front ++ f.quote ∷ l) in let g = f.moves l in
          e.NamesEncoding.names (d.IsVersionInfo.version w.space w.equals w.quoted vn) g.space g.equals g.quoted ee);
    }

-- ---- before line ends are line feeds

quote_no_feed : (q : ℕ) → is_delimiter q ≡ true → 10 ≡ q → ⊥
quote_no_feed q is e = grind (arith, nat_tests)

same_normal : (c q : ℕ) (front behind : List ℕ) → is_delimiter q ≡ true → normal c (front ++ q ∷ behind) ≡ normal c front
same_normal c q [] behind is = ap (λ b. cond (c == 13) (cond b [] (10 ∷ [])) (c ∷ [])) (not_feed q is)
  where
    not_feed : (q : ℕ) → is_delimiter q ≡ true → (q == 10) ≡ false
    not_feed q is = grind (arith, nat_tests)
same_normal c q (f ∷ front) behind is = refl

record IsCut (cs front : List ℕ) (quote : ℕ) : Type 0 where
  raw : List ℕ
  behind : List ℕ
  splits : cs ≡ raw ++ quote ∷ behind
  same : lines_of raw ≡ front

-- one character more
cut_step : (c : ℕ) (cs front rest : List ℕ) (q : ℕ) → is_delimiter q ≡ true → ((f : List ℕ) → lines_of cs ≡ f ++ q ∷ rest → IsCut cs f q) → lines_of (c ∷ cs) ≡ front ++ q ∷ rest → IsCut (c ∷ cs) front q
cut_step c cs front rest q is before h =
    normal_cases (λ n. normal c cs ≡ n → n ++ lines_of cs ≡ front ++ q ∷ rest → IsCut (c ∷ cs) front q) c cs (λ r b. none) (λ e g. one 10 e front g (λ f. absurd (quote_no_feed q is f))) (λ e g. one c e front g (λ f. f)) refl
    (sym (lines_step c cs) ∙ h)
  where
    more : (f : List ℕ) → IsCut cs f q → IsCut (c ∷ cs) (normal c cs ++ f) q
    more f k = record {
      raw = c ∷ k.raw;
      behind = k.behind;
      splits = ap (λ l. c ∷ l) k.splits;
      same = lines_step c k.raw ∙ ap (λ n. n ++ lines_of k.raw) (sym (same_normal c q k.raw k.behind is) ∙ ap (normal c) (sym k.splits)) ∙ ap (λ l. normal c cs ++ l) k.same;
    }

    here : c ≡ q → IsCut (c ∷ cs) [] q
    here e = record { raw = []; behind = cs; splits = ap (λ d. d ∷ cs) e; same = refl }

    one : (n : ℕ) → normal c cs ≡ n ∷ [] → (f : List ℕ) → n ∷ lines_of cs ≡ f ++ q ∷ rest → (n ≡ q → c ≡ q) → IsCut (c ∷ cs) f q
    one n is_n [] g same = here (same (cc))
    one n is_n (f ∷ front) g same =
        let tail : lines_of cs ≡ front ++ q ∷ rest = cc in
        let head : n ≡ f = cc in
        subst (λ l. IsCut (c ∷ cs) l q) (ap (λ l. l ++ front) is_n ∙ ap (λ x. x ∷ front) head) (more front (before front tail))

    none : normal c cs ≡ [] → lines_of cs ≡ front ++ q ∷ rest → IsCut (c ∷ cs) front q
    none is_n g = subst (λ l. IsCut (c ∷ cs) (l ++ front) q) is_n (more front (before front g))

raw_cut : (cs front rest : List ℕ) (q : ℕ) → is_delimiter q ≡ true → lines_of cs ≡ front ++ q ∷ rest → IsCut cs front q
raw_cut [] [] rest q is h = cc
raw_cut [] (f ∷ front) rest q is h = cc
raw_cut (c ∷ cs) front rest q is h = cut_step c cs front rest q is (λ f g. raw_cut cs f rest q is g) h

all_raw : (cs : List ℕ) → list_all is_ascii (lines_of cs) ≡ true → list_all is_ascii cs ≡ true
all_raw [] h = refl
all_raw (c ∷ cs) h = both_true (first (c == 13) refl h) (all_raw cs (all_parts is_ascii (normal c cs) (lines_of cs) (ap (list_all is_ascii) (sym (lines_step c cs)) ∙ h)).1)
  where
    first : (b : Bool) → (c == 13) ≡ b → list_all is_ascii (cond b (cond (begins_with (λ d. d == 10) cs) (lines_of cs) (10 ∷ lines_of cs)) (c ∷ lines_of cs)) ≡ true → is_ascii c ≡ true
    first true e g = ap is_ascii (eqb-true c 13 e)
    first false e g = (and_parts _ _ g).0

-- the declaration is the same where each byte is a character
pub names_in_bytes : (front behind bytes name : List ℕ) → IsUtf8 front → bytes ≡ front ++ behind → NamesEncoding (lines_of (chars front)) name → NamesEncoding (lines_of bytes) name
names_in_bytes front behind bytes name u split h =
    let m = name_moved (lines_of (chars front)) name h in
    let q = m.quote in
    let k = raw_cut (chars front) m.front m.rest q m.is_quote m.splits in
    let ascii : list_all is_ascii k.raw ≡ true = all_raw k.raw (ap (list_all is_ascii) k.same ∙ m.ascii) in
    let quoted : encode_utf8_all (q ∷ k.behind) ≡ q ∷ encode_utf8_all k.behind = ap (λ l. l ++ encode_utf8_all k.behind) (encode_ascii q (small q (quote_ascii q m.is_quote))) in
    let whole : front ≡ k.raw ++ q ∷ encode_utf8_all k.behind =
    sym (encodes-chars front u) ∙ ap encode_utf8_all k.splits ∙ encodes-append k.raw (q ∷ k.behind)
    ∙ ap (λ l. l ++ encode_utf8_all (q ∷ k.behind)) (encodes-IsAscii k.raw (ascii_bytes k.raw ascii)) ∙ ap (λ l. k.raw ++ l) quoted in
    let all : bytes ≡ k.raw ++ q ∷ (encode_utf8_all k.behind ++ behind) = split ∙ ap (λ l. l ++ behind) whole ∙ append_assoc k.raw (q ∷ encode_utf8_all k.behind) behind in
    let lines : lines_of bytes ≡ m.front ++ q ∷ lines_of (encode_utf8_all k.behind ++ behind) =
    ap lines_of all ∙ lines_parted k.raw q (encode_utf8_all k.behind ++ behind) (delimiter_inner q m.is_quote) ∙ ap (λ l. l ++ q ∷ lines_of (encode_utf8_all k.behind ++ behind)) k.same in
    subst (λ l. NamesEncoding l name) (sym lines) (m.moves (lines_of (encode_utf8_all k.behind ++ behind)))
  where
    small : (q : ℕ) → is_ascii q ≡ true → q < 128
    small q h = grind (arith, nat_tests)
