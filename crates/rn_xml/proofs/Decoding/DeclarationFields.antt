-- Fields of the XML declaration: where the characters have one, it is read.
use Rattle.std.specs.Cmp.Derive.{both_true}
use Rattle.std.proofs.Common.{◌≡◌, ◌≢◌, ℕ, ◌<◌, Bool, true, false, List, [], ◌∷◌, ◌++◌, length, refl, sym, ap, ◌∙◌, subst, arith, drop, get_or, length-append, length-drop, ⊎_elim}
use Rattle.std.specs.Prelude.{◌==◌, not, if◌then◌else◌}
use Rattle.std.specs.List.{list_all}
use Rattle.std.specs.Str.{IsUtf8, chars, encode_utf8_all, NonePass, NoCharPasses}
use Rattle.std.specs.Str.Pattern.{FindsChar, SplitsAroundMatch}
use Rattle.std.proofs.lemmas.Str.{length-le-encodes, chars_from_encodes, chars-append, encode_ascii, IsUtf8-take, IsCharBoundary-before_ascii}
use Rattle.std.proofs.lemmas.Bool.{and_parts, cases_Bool, eqb-true, false≢true}
use Rattle.std.proofs.lemmas.Bool.Decides.{nat_tests}
use Rattle.std.proofs.lemmas.List.{append_cancel_left, take-append-drop}
use Rattle.std.specs.Char.{is_ascii}
use Rattle.rn_text.specs.Segments.{begins_with, after_run, run_of, is_delimiter}
use Rattle.rn_text.specs.Texts.{is_white}
use Rattle.rn_text.proofs.Words.AppendedLists.{all_parts}
use Rattle.rn_text.proofs.Words.CharacterRuns.{after_run_passes, after_run_stops, stop_fails, bytes_split, run_split}
use Rattle.rn_xml.specs.XmlCharacters.{lines_of, MaySpace, IsSpace}
use Rattle.rn_xml.specs.XmlCharacters as x
use Rattle.rn_xml.specs.XmlTags.{IsEq}
use Rattle.rn_xml.specs.XmlTags as tags
use Rattle.rn_xml.specs.XmlDocuments.{IsQuoted}
use Rattle.rn_xml.specs.XmlDocuments as d
use Rattle.rn_xml.specs.inside.Pieces.{IsNamedField, is_inner}
use Rattle.rn_xml.specs.inside.Declared.{LacksField, IsOnlyField, is_unquoted}
use Rattle.rn_xml.proofs.AsciiFronts.{chars_behind}
use Rattle.rn_xml.proofs.AttributeValues.{delimiter_inner}
use Rattle.rn_xml.proofs.Sources.{inner_black, space_lines, inner_itself, front_there, inner_front, lines_parted}

all_tail : (p : ℕ → Bool) (c : ℕ) (cs : List ℕ) → list_all p (c ∷ cs) ≡ true → list_all p cs ≡ true
all_tail p c cs h = (and_parts _ _ h).1

-- white space ends where something else follows it
pub white_run : (xs r : List ℕ) (c : ℕ) → is_white c ≡ false → MaySpace xs (c ∷ r) → after_run is_white xs ≡ c ∷ r
white_run xs r c n x.MaySpace.none = after_run_stops is_white c r n
white_run (e ∷ xs) r c n (x.MaySpace.white w m) = after_run_passes is_white e xs w ∙ white_run xs r c n m

pub white_all : (xs : List ℕ) → MaySpace xs [] → after_run is_white xs ≡ []
white_all [] x.MaySpace.none = refl
white_all (e ∷ xs) (x.MaySpace.white w m) = after_run_passes is_white e xs w ∙ white_all xs m

-- what follows white space, once each line end is one line feed, does so before
pub space_there : (cs r : List ℕ) (c : ℕ) → is_white c ≡ false → MaySpace (lines_of cs) (c ∷ r) → (ys : List ℕ) × (after_run is_white cs ≡ c ∷ ys) × (lines_of ys ≡ r)
space_there cs r c n m = there (after_run is_white cs) refl (space_lines cs)
  where
    run : after_run is_white (lines_of cs) ≡ c ∷ r
    run = white_run (lines_of cs) r c n m

    there : (zs : List ℕ) → after_run is_white cs ≡ zs → MaySpace (lines_of cs) (lines_of zs) → (ys : List ℕ) × (after_run is_white cs ≡ c ∷ ys) × (lines_of ys ≡ r)
    there [] e s = let none : [] ≡ c ∷ r = sym (white_all (lines_of cs) s) ∙ run in absurd (cc)
    there (e ∷ zs) is s =
        let black : is_white e ≡ false = stop_fails is_white cs e zs is in
        let itself : lines_of (e ∷ zs) ≡ e ∷ lines_of zs = inner_itself e zs (inner_black e black) in
        let same : e ∷ lines_of zs ≡ c ∷ r = sym (white_run (lines_of cs) (lines_of zs) e black (subst (λ l. MaySpace (lines_of cs) l) itself s)) ∙ run in
        (zs, is ∙ ap (λ d. d ∷ zs) (let h : e ≡ c = cc in h), cc)

pub white_there : (cs : List ℕ) → begins_with is_white (lines_of cs) ≡ true → begins_with is_white cs ≡ true
white_there [] w = w
white_there (c ∷ cs) w = cases (is_white c) refl
  where
    cases : (b : Bool) → is_white c ≡ b → is_white c ≡ true
    cases true e = e
    cases false e = let h : is_white c ≡ true = ap (begins_with is_white) (sym (inner_itself c cs (inner_black c e))) ∙ w in h

pub some_white : (xs r : List ℕ) → IsSpace xs r → (begins_with is_white xs ≡ true) × MaySpace xs r
some_white [] r h = elim h [ ]
some_white (c ∷ xs) r (x.IsSpace.white w m) = (w, x.MaySpace.white w m)

-- a field as it stands before its line ends are line feeds
pub record IsRead (name cs value rest : List ℕ) : Type 0 where
  pub mid : List ℕ
  pub equals : List ℕ
  pub inside : List ℕ
  pub quote : ℕ
  pub white : begins_with is_white cs ≡ true
  pub named : after_run is_white cs ≡ name ++ mid
  pub equal : after_run is_white mid ≡ 61 ∷ equals
  pub opens : after_run is_white equals ≡ quote ∷ inside
  pub is_quote : is_delimiter quote ≡ true
  pub closes : lines_of inside ≡ value ++ quote ∷ rest

record IsOpened (cs value rest : List ℕ) : Type 0 where
  inside : List ℕ
  quote : ℕ
  opens : after_run is_white cs ≡ quote ∷ inside
  is_quote : is_delimiter quote ≡ true
  closes : lines_of inside ≡ value ++ quote ∷ rest

opened : (cs after value rest : List ℕ) → MaySpace (lines_of cs) after → IsQuoted after value rest → IsOpened cs value rest
opened cs after value rest m (d.IsQuoted.double) = let s = space_there cs (value ++ 34 ∷ rest) 34 refl m in record { inside = s.0; quote = 34; opens = s.1; is_quote = refl; closes = s.2 }
opened cs after value rest m (d.IsQuoted.single) = let s = space_there cs (value ++ 39 ∷ rest) 39 refl m in record { inside = s.0; quote = 39; opens = s.1; is_quote = refl; closes = s.2 }

pub field_read : (name cs value rest : List ℕ) → 0 < length name → begins_with is_white name ≡ false → list_all is_inner name ≡ true
    → IsNamedField name (lines_of cs) value rest → IsRead name cs value rest
field_read [] cs value rest some black inner f = absurd (omega arith)
field_read (n ∷ name) cs value rest some black inner f = equalled f.equals
  where
    space : (begins_with is_white (lines_of cs) ≡ true) × MaySpace (lines_of cs) (n ∷ (name ++ f.mid))
    space = some_white (lines_of cs) (n ∷ (name ++ f.mid)) f.space

    first : (ys : List ℕ) × (after_run is_white cs ≡ n ∷ ys) × (lines_of ys ≡ name ++ f.mid)
    first = space_there cs (name ++ f.mid) n black space.1

    behind : (ys : List ℕ) × (first.0 ≡ name ++ ys)
    behind = front_there name first.0 f.mid (all_tail is_inner n name inner) first.2

    lines_behind : lines_of behind.0 ≡ f.mid
    lines_behind = append_cancel_left name (lines_of behind.0) f.mid (sym (inner_front name behind.0 (all_tail is_inner n name inner)) ∙ ap lines_of (sym behind.1) ∙ first.2)

    equalled : IsEq f.mid f.after → IsRead (n ∷ name) cs value rest
    equalled (tags.IsEq.equals {mid = behind_equals} before after) =
        let s = space_there behind.0 behind_equals 61 refl (subst (λ l. MaySpace l (61 ∷ behind_equals)) (sym lines_behind) before) in
        let o = opened s.0 f.after value rest (subst (λ l. MaySpace l f.after) (sym s.2) after) f.quoted in
        record {
          mid = behind.0;
          equals = s.0;
          inside = o.inside;
          quote = o.quote;
          white = white_there cs space.0;
          named = first.1 ∙ ap (λ l. n ∷ l) behind.1;
          equal = s.1;
          opens = o.opens;
          is_quote = o.is_quote;
          closes = o.closes;
        }

-- where the length of a text says that it begins with no such character
pub no_run : (p : ℕ → Bool) (text rest : List ℕ) → IsUtf8 text → IsUtf8 rest → chars rest ≡ after_run p (chars text) → length rest ≡ length text → begins_with p (chars text) ≡ false
no_run p text rest t r run same = ⊎_elim (λ w. absurd (longer w)) (λ n. n) (cases_Bool (begins_with p (chars text)))
  where
    front : List ℕ
    front = run_of p (chars text)

    split : text ≡ encode_utf8_all front ++ rest
    split = bytes_split text rest front t r (sym (run_split p (chars text)) ∙ ap (λ l. front ++ l) (sym run))

    some : (cs : List ℕ) → begins_with p cs ≡ true → 0 < length (run_of p cs)
    some [] w = absurd (false≢true w)
    some (c ∷ cs) w = rw w (omega arith)

    longer : begins_with p (chars text) ≡ true → ⊥
    longer w = omega (arith, some (chars text) w, ap length split, length-append (encode_utf8_all front) rest, length-le-encodes front, same)

pub no_white : (text rest : List ℕ) → IsUtf8 text → IsUtf8 rest → chars rest ≡ after_run is_white (chars text) → length rest ≡ length text → begins_with is_white (chars text) ≡ false
no_white text rest t r run same = no_run is_white text rest t r run same

-- a list is cut at the first of a kind in one way
pub cut_once : (q : ℕ) (u r v s : List ℕ) → list_all (λ c. not (c == q)) u ≡ true → list_all (λ c. not (c == q)) v ≡ true → u ++ q ∷ r ≡ v ++ q ∷ s → (u ≡ v) × (r ≡ s)
cut_once q [] r [] s a b e = (refl, cc)
cut_once q [] r (d ∷ v) s a b e = let h : d ≡ q = cc in absurd (not_it d h (and_parts _ _ b).0)
  where
    not_it : (d : ℕ) → d ≡ q → not (d == q) ≡ true → ⊥
    not_it d h n = grind (arith, nat_tests)
cut_once q (c ∷ u) r [] s a b e = let h : c ≡ q = cc in absurd (not_it c h (and_parts _ _ a).0)
  where
    not_it : (d : ℕ) → d ≡ q → not (d == q) ≡ true → ⊥
    not_it d h n = grind (arith, nat_tests)
cut_once q (c ∷ u) r (d ∷ v) s a b e =
    let tails : u ++ q ∷ r ≡ v ++ q ∷ s = cc in
    let heads : c ≡ d = cc in
    let rest = cut_once q u r v s (and_parts _ _ a).1 (and_parts _ _ b).1 tails in
    (ap (λ x. x ∷ u) heads ∙ ap (λ l. d ∷ l) rest.0, rest.1)

-- a line end that is a line feed is still no quote
lines_lack : (q : ℕ) (cs : List ℕ) → is_delimiter q ≡ true → list_all (λ c. not (c == q)) cs ≡ true → list_all (λ c. not (c == q)) (lines_of cs) ≡ true
lines_lack q [] is all = refl
lines_lack q (c ∷ cs) is all = step (c == 13) (begins_with (λ d. d == 10) cs) (lines_lack q cs is (and_parts _ _ all).1)
  where
    feed : (not (10 == q)) ≡ true
    feed = grind (arith, nat_tests)

    step : (a b : Bool) → list_all (λ c. not (c == q)) (lines_of cs) ≡ true → list_all (λ c. not (c == q)) (if a then (if b then lines_of cs else 10 ∷ lines_of cs) else c ∷ lines_of cs) ≡ true
    step true true h = h
    step true false h = rw (feed, h)
    step false b h = let first : not (c == q) ≡ true = (and_parts _ _ all).0 in rw (first, h)

unquoted_lacks : (q : ℕ) (cs : List ℕ) → is_delimiter q ≡ true → list_all is_unquoted cs ≡ true → list_all (λ c. not (c == q)) cs ≡ true
unquoted_lacks q [] is all = refl
unquoted_lacks q (c ∷ cs) is all = both_true (other c (and_parts _ _ all).0) (unquoted_lacks q cs is (and_parts _ _ all).1)
  where
    other : (c : ℕ) → is_unquoted c ≡ true → not (c == q) ≡ true
    other c u = grind (arith, nat_tests)

-- how far the characters have a field, and where they lack it
module _ (name cs : List ℕ) (some : 0 < length name) (black : begins_with is_white name ≡ false) (inner : list_all is_inner name ≡ true) where
  read : (value rest : List ℕ) → IsNamedField name (lines_of cs) value rest → IsRead name cs value rest
  read value rest f = field_read name cs value rest some black inner f

  pub lacks_space : begins_with is_white cs ≡ false → LacksField name (lines_of cs)
  lacks_space n value rest f = false≢true (sym n ∙ (read value rest f).white)

  pub lacks_name : ((behind : List ℕ) → after_run is_white cs ≢ name ++ behind) → LacksField name (lines_of cs)
  lacks_name n value rest f = let r = read value rest f in n r.mid r.named

  module _ (mid : List ℕ) (named : after_run is_white cs ≡ name ++ mid) where
    same_mid : (value rest : List ℕ) → (r : IsRead name cs value rest) → mid ≡ r.mid
    same_mid value rest r = append_cancel_left name mid r.mid (sym named ∙ r.named)

    pub lacks_equals : begins_with (λ d. d == 61) (after_run is_white mid) ≡ false → LacksField name (lines_of cs)
    lacks_equals n value rest f =
        let r = read value rest f in
        let run : after_run is_white mid ≡ 61 ∷ r.equals = ap (after_run is_white) (same_mid value rest r) ∙ r.equal in
        let is : begins_with (λ d. d == 61) (after_run is_white mid) ≡ true = ap (begins_with (λ d. d == 61)) run in
        false≢true (sym n ∙ is)

    module _ (equals : List ℕ) (equal : after_run is_white mid ≡ 61 ∷ equals) where
      same_run : (value rest : List ℕ) → (r : IsRead name cs value rest) → after_run is_white equals ≡ r.quote ∷ r.inside
      same_run value rest r =
          let both : 61 ∷ equals ≡ 61 ∷ r.equals = sym equal ∙ ap (after_run is_white) (same_mid value rest r) ∙ r.equal in
          let tail : equals ≡ r.equals = cc in
          ap (after_run is_white) tail ∙ r.opens

      pub lacks_all : after_run is_white equals ≡ [] → LacksField name (lines_of cs)
      lacks_all n value rest f = let r = read value rest f in let e : [] ≡ r.quote ∷ r.inside = sym n ∙ same_run value rest r in cc

      module _ (quote : ℕ) (inside : List ℕ) (opens : after_run is_white equals ≡ quote ∷ inside) where
        same_open : (value rest : List ℕ) → (r : IsRead name cs value rest) → (quote ≡ r.quote) × (inside ≡ r.inside)
        same_open value rest r = let e : quote ∷ inside ≡ r.quote ∷ r.inside = sym opens ∙ same_run value rest r in (cc, cc)

        pub lacks_quote : is_delimiter quote ≡ false → LacksField name (lines_of cs)
        lacks_quote n value rest f = let r = read value rest f in false≢true (sym n ∙ ap is_delimiter (same_open value rest r).0 ∙ r.is_quote)

        closed : (value rest : List ℕ) → (r : IsRead name cs value rest) → lines_of inside ≡ value ++ quote ∷ rest
        closed value rest r = let s = same_open value rest r in ap lines_of s.1 ∙ r.closes ∙ ap (λ q. value ++ q ∷ rest) (sym s.0)

        pub lacks_close : is_delimiter quote ≡ true → list_all (λ c. not (c == quote)) inside ≡ true → LacksField name (lines_of cs)
        lacks_close is n value rest f =
            let all = ap (list_all (λ c. not (c == quote))) (sym (closed value rest (read value rest f))) ∙ lines_lack quote inside is n in
            let last = (and_parts _ _ (all_parts (λ c. not (c == quote)) value (quote ∷ rest) all).1).0 in
            itself quote last
          where
            itself : (q : ℕ) → not (q == q) ≡ true → ⊥
            itself q n = grind (arith, nat_tests)

        module _ (value rest : List ℕ) (closes : inside ≡ value ++ quote ∷ rest) (is : is_delimiter quote ≡ true) where
          lines_closed : lines_of inside ≡ lines_of value ++ quote ∷ lines_of rest
          lines_closed = ap lines_of closes ∙ lines_parted value quote rest (delimiter_inner quote is)

          pub only_field : list_all (λ c. not (c == quote)) value ≡ true → IsOnlyField name (lines_of cs) (lines_of value) (lines_of rest)
          only_field lacks v r f unquoted =
              cut_once quote v r (lines_of value) (lines_of rest) (unquoted_lacks quote v is unquoted) (lines_lack quote value is lacks) (sym (closed v r (read v r f)) ∙ lines_closed)

          pub named_field : IsSpace (lines_of cs) (lines_of (after_run is_white cs)) → IsNamedField name (lines_of cs) (lines_of value) (lines_of rest)
          named_field space = record {
            mid = lines_of mid;
            after = lines_of (after_run is_white equals);
            space = subst (λ l. IsSpace (lines_of cs) l) (ap lines_of named ∙ inner_front name mid inner) space;
            equals = tags.IsEq.equals (subst (λ l. MaySpace (lines_of mid) l) (ap lines_of equal ∙ inner_itself 61 equals refl) (space_lines mid)) (space_lines equals);
            quoted = subst (λ l. IsQuoted l (lines_of value) (lines_of rest)) (sym (ap lines_of opens ∙ inner_itself quote inside (delimiter_inner quote is) ∙ ap (λ l. quote ∷ l) lines_closed)) (quoted quote is);
          }
            where
              is_single : (q : ℕ) → is_delimiter q ≡ true → (q == 34) ≡ false → q ≡ 39
              is_single q h e = grind (arith, nat_tests)

              quoted : (q : ℕ) → is_delimiter q ≡ true → IsQuoted (q ∷ (lines_of value ++ q ∷ lines_of rest)) (lines_of value) (lines_of rest)
              quoted q h = ⊎_elim
                  (λ e. subst (λ k. IsQuoted (k ∷ (lines_of value ++ k ∷ lines_of rest)) (lines_of value) (lines_of rest)) (sym (eqb-true q 34 e)) d.IsQuoted.double)
                  (λ e. subst (λ k. IsQuoted (k ∷ (lines_of value ++ k ∷ lines_of rest)) (lines_of value) (lines_of rest)) (sym (is_single q h e)) d.IsQuoted.single)
                  (cases_Bool (q == 34))

-- a text that is cut at its first quote
none_pass : (q : ℕ) (cs : List ℕ) → NonePass (λ d. d == q) cs → list_all (λ c. not (c == q)) cs ≡ true
none_pass q [] n = refl
none_pass q (c ∷ cs) n = both_true (ap not n.0) (none_pass q cs n.1)

pub no_quote : (q : ℕ) (bs : List ℕ) → IsUtf8 bs → NoCharPasses (λ d. d == q) bs → list_all (λ c. not (c == q)) (chars bs) ≡ true
no_quote q bs u n = ap (list_all (λ c. not (c == q))) (sym (chars_from_encodes n.0 bs u n.1)) ∙ none_pass q n.0 n.2

pub cut_at_quote : (q : ℕ) (bs front behind : List ℕ) → IsUtf8 bs → is_delimiter q ≡ true → SplitsAroundMatch (FindsChar q) bs front behind
    → (chars bs ≡ chars front ++ q ∷ chars behind) × (list_all (λ c. not (c == q)) (chars front) ≡ true)
cut_at_quote q bs front behind u is s =
    let small : q < 128 = grind (arith, nat_tests) in
    let ascii : list_all is_ascii (q ∷ []) ≡ true = grind (arith, nat_tests) in
    let quoted : drop s.0 bs ≡ q ∷ behind = s.2.1.split ∙ ap (λ l. l ++ drop s.1 bs) (encode_ascii q small) ∙ ap (λ l. q ∷ l) (sym s.4) in
    let whole : bs ≡ front ++ q ∷ behind = sym (take-append-drop s.0 bs) ∙ ap (λ l. l ++ drop s.0 bs) (sym s.3) ∙ ap (λ l. front ++ l) quoted in
    let before : s.0 < length bs = omega (arith, ap length quoted, length-drop s.0 bs) in
    let low : get_or bs s.0 0 < 128 = omega (arith, s.2.1.byte small) in
    let boundary = IsCharBoundary-before_ascii bs s.0 before low in
    let text : IsUtf8 front = subst IsUtf8 (sym s.3) (IsUtf8-take bs s.0 u boundary) in
    let split = ap chars whole ∙ chars-append front (q ∷ behind) text ∙ ap (λ l. chars front ++ l) (chars_behind (q ∷ []) (q ∷ behind) behind ascii refl) in
    (split, no_quote q front text (subst (λ l. NoCharPasses (λ d. d == q) l) (sym s.3) s.2.0))
