-- Texts without the white space at their ends.
use Rattle.std.proofs.Common.{◌≡◌, ℕ, ◌-◌, ◌<◌, Bool, true, false, cond, List, [], ◌∷◌, ◌++◌, length, drop, take, refl, sym, ap, ◌∙◌, arith, ⊎_elim, append-nil, Some, None}
use Rattle.std.specs.Prelude.{Option, IfSome, ◌&&◌, encode_utf8}
use Rattle.std.specs.Char.{IsScalar}
use Rattle.std.specs.Fn.{AlwaysReturns, Called}
use Rattle.std.specs.List.{list_all}
use Rattle.std.specs.Str.Pattern.{IsTrimStartMatches, IsTrimEndMatches, CutsPrefixes, CutsSuffixes, FindsPrefixBy, FindsSuffixBy}
use Rattle.std.proofs.Math.Seq.{drop-length}
use Rattle.std.proofs.lemmas.Bool.{cases_Bool, cond-true, cond-false}
use Rattle.std.proofs.lemmas.Bool.Decides.{nat_tests}
use Rattle.std.proofs.lemmas.List.{take-append-drop}
use Rattle.std.proofs.lemmas.List.Folds.{list_all-append}
use Rattle.std.proofs.lemmas.List.Sorted.{answers_always}
use Rattle.std.proofs.lemmas.Str.{encode_ascii, len_utf8_bounds}
use denote.Param.Members.{Mut}
use Rattle.rn_text.specs.Texts.{is_white}
use Rattle.rn_translate.specs.SchemaElements.{without_end, without_front}

-- white space is of ASCII
white_small : (c : ℕ) → is_white c ≡ true → c < 128
white_small c e = grind (arith, nat_tests)

small_scalar : (c : ℕ) → c < 128 → IsScalar c
small_scalar c h = grind arith

-- ---- at the front

front_past : (c : ℕ) (cs : List ℕ) → is_white c ≡ true → without_front (c ∷ cs) ≡ without_front cs
front_past c cs e = cond-true (is_white c) (without_front cs) (c ∷ cs) e

module _ (R : List ℕ → Option ℕ → Type 0) (finds : (s : List ℕ) (o : Option ℕ) → R s o → FindsPrefixBy is_white s o) where
  front_cut : (s ns r : List ℕ) → CutsPrefixes R s ns r → without_front r ≡ without_front s
  front_cut s [] r e = ap without_front e
  front_cut s (n ∷ ns) r (m, before, found, is) =
      let white = finds m (Some n) found in
      let here : m ≡ white.0 ∷ r = white.2.split ∙ ap (λ l. encode_utf8 white.0 ++ l) (sym is) ∙ ap (λ l. l ++ r) (encode_ascii white.0 (white_small white.0 white.1)) in
      sym (ap without_front here ∙ front_past white.0 r white.1) ∙ front_cut s ns m before

  front_stops : (r : List ℕ) (o : Option ℕ) → R r o → IfSome o (λ n. n ≡ 0) → without_front r ≡ r
  front_stops [] o found z = refl
  front_stops (c ∷ cs) None found z = ⊎_elim
      (λ white. let no : true ≡ false = sym white ∙ finds (c ∷ cs) None found c cs (small_scalar c (white_small c white)) (ap (λ l. l ++ cs) (sym (encode_ascii c (white_small c white)))) in cc)
      (λ other. cond-false (is_white c) (without_front cs) (c ∷ cs) other)
      (cases_Bool (is_white c))
  front_stops (c ∷ cs) (Some n) found z =
      let at = (finds (c ∷ cs) (Some n) found).2 in absurd (omega (arith, at.ends, z, (len_utf8_bounds (finds (c ∷ cs) (Some n) found).0).0))

  pub front_trimmed : (s r : List ℕ) → IsTrimStartMatches R s r → r ≡ without_front s
  front_trimmed s r (cut, done) = sym (front_stops r done.0 done.1 done.2) ∙ front_cut s cut.0 r cut.1

-- ---- at the end

end_past : (cs : List ℕ) (c : ℕ) → is_white c ≡ true → without_end (cs ++ c ∷ []) ≡ without_end cs
end_past [] c e = cond-true (is_white c && true) [] (c ∷ []) (ap (λ b. b && true) e)
end_past (x ∷ xs) c e =
    let all : list_all is_white (xs ++ c ∷ []) ≡ list_all is_white xs = list_all-append is_white xs (c ∷ []) ∙ ap (λ b. list_all is_white xs && (b && true)) e ∙ and_true (list_all is_white xs) in
    ap (λ b. cond (is_white x && b) [] (x ∷ without_end (xs ++ c ∷ []))) all ∙ ap (λ l. cond (is_white x && list_all is_white xs) [] (x ∷ l)) (end_past xs c e)
  where
    and_true : (b : Bool) → (b && (true && true)) ≡ b
    and_true true = refl
    and_true false = refl

end_stays : (cs : List ℕ) (c : ℕ) → is_white c ≡ false → without_end (cs ++ c ∷ []) ≡ cs ++ c ∷ []
end_stays [] c e = cond-false (is_white c && true) [] (c ∷ []) (ap (λ b. b && true) e)
end_stays (x ∷ xs) c e =
    let all : (is_white x && list_all is_white (xs ++ c ∷ [])) ≡ false =
    ap (λ b. is_white x && b) (list_all-append is_white xs (c ∷ []) ∙ ap (λ b. list_all is_white xs && (b && true)) e) ∙ and_false (is_white x) (list_all is_white xs) in
    cond-false _ [] (x ∷ without_end (xs ++ c ∷ [])) all ∙ ap (λ l. x ∷ l) (end_stays xs c e)
  where
    and_false : (a b : Bool) → (a && (b && (false && true))) ≡ false
    and_false true true = refl
    and_false true false = refl
    and_false false b = refl

-- a text is empty or has a last byte
data Ends : List ℕ → Type 0 where
  empty : Ends []
  last : (front : List ℕ) (c : ℕ) → Ends (front ++ c ∷ [])

ends : (cs : List ℕ) → Ends cs
ends [] = Ends.empty
ends (c ∷ cs) = more c cs (ends cs)
  where
    more : (c : ℕ) (cs : List ℕ) → Ends cs → Ends (c ∷ cs)
    more c [] Ends.empty = Ends.last [] c
    more c _ (Ends.last front d) = Ends.last (c ∷ front) d

module _ (R : List ℕ → Option ℕ → Type 0) (finds : (s : List ℕ) (o : Option ℕ) → R s o → FindsSuffixBy is_white s o) where
  end_cut : (s ns r : List ℕ) → CutsSuffixes R s ns r → without_end r ≡ without_end s
  end_cut s [] r e = ap without_end e
  end_cut s (n ∷ ns) r (m, before, found, is) =
      let white = finds m (Some n) found in
      let tail : drop (length m - n) m ≡ white.0 ∷ [] = white.2.split ∙ ap (λ l. encode_utf8 white.0 ++ l) (drop-length m) ∙ append-nil (encode_utf8 white.0) ∙ encode_ascii white.0 (white_small white.0 white.1) in
      let here : m ≡ r ++ white.0 ∷ [] = sym (take-append-drop (length m - n) m) ∙ ap (λ l. take (length m - n) m ++ l) tail ∙ ap (λ l. l ++ white.0 ∷ []) (sym is) in
      sym (ap without_end here ∙ end_past r white.0 white.1) ∙ end_cut s ns m before

  stops_at : (r : List ℕ) → Ends r → (o : Option ℕ) → R r o → IfSome o (λ n. n ≡ 0) → without_end r ≡ r
  stops_at [] Ends.empty o found z = refl
  stops_at _ (Ends.last front c) None found z = ⊎_elim
      (λ white. let no : true ≡ false = sym white ∙ finds (front ++ c ∷ []) None found c front (small_scalar c (white_small c white)) (ap (λ l. front ++ l) (sym (encode_ascii c (white_small c white)))) in cc)
      (λ other. end_stays front c other)
      (cases_Bool (is_white c))
  stops_at _ (Ends.last front c) (Some n) found z =
      let at = (finds (front ++ c ∷ []) (Some n) found).2 in absurd (omega (arith, at.ends, z, (len_utf8_bounds (finds (front ++ c ∷ []) (Some n) found).0).0))

  pub end_trimmed : (s r : List ℕ) → IsTrimEndMatches R s r → r ≡ without_end s
  end_trimmed s r (cut, done) = sym (stops_at r (ends r) done.0 done.1 done.2) ∙ end_cut s cut.0 r cut.1

-- where a closure tests the characters
pub front_trimmed_by : {F : Type 0} (g : Mut F (ℕ × Unit {0}) Bool) (f : F) → ((f : F) (a : ℕ × Unit {0}) (r : Bool) (h : F) → Called g f a r h → r ≡ is_white a.0)
    → (s r : List ℕ) → IsTrimStartMatches (λ s o. (k : ℕ → Bool) → AlwaysReturns g (λ a r. r ≡ k a.0) f → FindsPrefixBy k s o) s r → r ≡ without_front s
front_trimmed_by g f answers s r h = front_trimmed (λ s o. (k : ℕ → Bool) → AlwaysReturns g (λ a r. r ≡ k a.0) f → FindsPrefixBy k s o) (λ s o found. found is_white (answers_always g (λ a r. r ≡ is_white a.0) f answers)) s r h

pub end_trimmed_by : {F : Type 0} (g : Mut F (ℕ × Unit {0}) Bool) (f : F) → ((f : F) (a : ℕ × Unit {0}) (r : Bool) (h : F) → Called g f a r h → r ≡ is_white a.0)
    → (s r : List ℕ) → IsTrimEndMatches (λ s o. (k : ℕ → Bool) → AlwaysReturns g (λ a r. r ≡ k a.0) f → FindsSuffixBy k s o) s r → r ≡ without_end s
end_trimmed_by g f answers s r h = end_trimmed (λ s o. (k : ℕ → Bool) → AlwaysReturns g (λ a r. r ≡ k a.0) f → FindsSuffixBy k s o) (λ s o found. found is_white (answers_always g (λ a r. r ≡ is_white a.0) f answers)) s r h
