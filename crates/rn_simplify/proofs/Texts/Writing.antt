-- What is appended piece by piece.
use Rattle.std.proofs.Common.{◌≡◌, ℕ, ◌<◌, inl, inr, ◌⊎◌, List, [], ◌∷◌, ◌++◌, length, Option, Some, None, refl, sym, ap, ◌∙◌, subst, append_assoc, append-nil, length-append, arith}
use Rattle.std.specs.Prelude.{option_and_then, string_bytes}
use Rattle.std.specs.Str.{encode_utf8_all}
use Rattle.std.proofs.lemmas.Str.{encodes-append}
use Rattle.rn_text.specs.Parts.{Piece, text_of}
use Rattle.rn_text.proofs.Cutting.SoundPieces.{text_of-append}
use Rattle.rn_simplify.specs.declared.writer.Writer.{Writer}
use Rattle.rn_simplify.specs.declared.writer.Stop.{Stop}
use Rattle.rn_simplify.specs.declared.writer.Stop.TheVariants.{TooLarge}
use Rattle.rn_simplify.specs.inside.Writes.{bytes_of, max_text, bracket_of, depth_behind, depth_after, depth_of, Bracket, Appends, Writes, WritesBytes, none}

pub bytes_of-append : (ps qs : List Piece) → bytes_of (ps ++ qs) ≡ bytes_of ps ++ bytes_of qs
bytes_of-append ps qs = ap encode_utf8_all (text_of-append ps qs) ∙ encodes-append (text_of ps) (text_of qs)

depth_through : (ps qs : List Piece) → ((n : ℕ) → depth_after (ps ++ qs) n ≡ option_and_then (depth_after qs) (depth_after ps n)) → (o : Option ℕ) → option_and_then (depth_after (ps ++ qs)) o ≡ option_and_then (depth_after qs) (option_and_then (depth_after ps) o)
depth_through ps qs f None = refl
depth_through ps qs f (Some n) = f n

pub depth_after-append : (ps qs : List Piece) (n : ℕ) → depth_after (ps ++ qs) n ≡ option_and_then (depth_after qs) (depth_after ps n)
depth_after-append [] qs n = refl
depth_after-append (p ∷ ps) qs n = depth_through ps qs (depth_after-append ps qs) (depth_behind (bracket_of p.part p.spelling) n)

longer : (a b c : List ℕ) → max_text < length (a ++ b) → max_text < length (a ++ (b ++ c))
longer a b c h = omega (arith, length-append a b, length-append a (b ++ c), length-append b c)

pub writes_nil : (w : Writer) → Writes [] w w
writes_nil w = record {
  stays = λ s h. h;
  appends = λ h. record { text = sym (append-nil (string_bytes w.text)); depth = nothing (depth_of w) };
  within = λ h i. i;
  too_large = λ h e. cc;
} where
  nothing : (o : Option ℕ) → o ≡ option_and_then (depth_after []) o
  nothing None = refl
  nothing (Some n) = refl

stopped_or : (o : Option Stop) → (o ≡ None) ⊎ ((s : Stop) × (o ≡ Some s))
stopped_or None = inl refl
stopped_or (Some s) = inr (s, refl)

appends_then : (ps qs : List Piece) {a b c : Writer} → Appends ps a b → Appends qs b c → Appends (ps ++ qs) a c
appends_then ps qs {a} {b} {c} h k = record {
  text = k.text ∙ ap (λ t. t ++ bytes_of qs) h.text ∙ append_assoc (string_bytes a.text) (bytes_of ps) (bytes_of qs) ∙ ap (λ t. string_bytes a.text ++ t) (sym (bytes_of-append ps qs));
  depth = k.depth ∙ ap (option_and_then (depth_after qs)) h.depth ∙ sym (depth_through ps qs (depth_after-append ps qs) (depth_of a));
}

too_large_then : (ps qs : List Piece) {a b c : Writer} → Writes ps a b → Writes qs b c → a.stopped ≡ None → c.stopped ≡ Some TooLarge → (b.stopped ≡ None) ⊎ ((s : Stop) × (b.stopped ≡ Some s)) → max_text < length (string_bytes a.text ++ bytes_of (ps ++ qs))
too_large_then ps qs {a} {b} {c} h k n e (inl m) =
    let l = k.too_large m e in
    let t : string_bytes a.text ++ bytes_of (ps ++ qs) ≡ string_bytes b.text ++ bytes_of qs =
    ap (λ t. string_bytes a.text ++ t) (bytes_of-append ps qs) ∙ sym (append_assoc (string_bytes a.text) (bytes_of ps) (bytes_of qs)) ∙ ap (λ t. t ++ bytes_of qs) (sym (h.appends m).text) in
    subst (λ x. max_text < length x) (sym t) l
too_large_then ps qs {a} {b} {c} h k n e (inr m) =
    let same : Some m.0 ≡ Some TooLarge = sym (k.stays m.0 m.1) ∙ e in
    let stopped : b.stopped ≡ Some TooLarge = m.1 ∙ same in
    subst (λ t. max_text < length (string_bytes a.text ++ t)) (sym (bytes_of-append ps qs)) (longer (string_bytes a.text) (bytes_of ps) (bytes_of qs) (h.too_large n stopped))

going : {ps : List Piece} {b c : Writer} → Writes ps b c → c.stopped ≡ None → (b.stopped ≡ None) ⊎ ((s : Stop) × (b.stopped ≡ Some s)) → b.stopped ≡ None
going k e (inl m) = m
going k e (inr m) = absurd (let x = k.stays m.0 m.1 in cc)

-- one after the other
pub writes_then : (ps qs : List Piece) {a b c : Writer} → Writes ps a b → Writes qs b c → Writes (ps ++ qs) a c
writes_then ps qs {a} {b} {c} h k = record {
  stays = λ s e. k.stays s (h.stays s e);
  appends = λ e. appends_then ps qs (h.appends (going k e (stopped_or b.stopped))) (k.appends e);
  within = λ e i. k.within e (h.within (going k e (stopped_or b.stopped)) i);
  too_large = λ n e. too_large_then ps qs h k n e (stopped_or b.stopped);
}

-- the pieces that are written, put together otherwise
pub writes_as : {ps qs : List Piece} {a b : Writer} → ps ≡ qs → Writes ps a b → Writes qs a b
writes_as {a = a} {b = b} e h = subst (λ x. Writes x a b) e h

same_depth : (ps : List Piece) (k : Bracket) (o : Option ℕ) → ((n : ℕ) → depth_after ps n ≡ depth_behind k n) → option_and_then (depth_behind k) o ≡ option_and_then (depth_after ps) o
same_depth ps k None f = refl
same_depth ps k (Some n) f = sym (f n)

-- bytes that are the pieces', of which none or one is a bracket
pub writes_pieces : (ps : List Piece) {bs : List ℕ} {k : Bracket} {a b : Writer} → bytes_of ps ≡ bs → ((n : ℕ) → depth_after ps n ≡ depth_behind k n) → WritesBytes bs k a b → Writes ps a b
writes_pieces ps {bs} {k} {a} {b} e f h = record {
  stays = h.stays;
  appends = λ n. record { text = h.text n ∙ ap (λ t. string_bytes a.text ++ t) (sym e); depth = h.depth n ∙ same_depth ps k (depth_of a) f };
  within = h.within;
  too_large = λ n l. subst (λ t. max_text < length (string_bytes a.text ++ t)) (sym e) (h.too_large n l);
}

bytes_too_large : (xs ys : List ℕ) {a b c : Writer} → WritesBytes xs none a b → WritesBytes ys none b c → a.stopped ≡ None → c.stopped ≡ Some TooLarge → (b.stopped ≡ None) ⊎ ((s : Stop) × (b.stopped ≡ Some s)) → max_text < length (string_bytes a.text ++ (xs ++ ys))
bytes_too_large xs ys {a} {b} {c} h k n e (inl m) = subst (λ t. max_text < length t) (ap (λ t. t ++ ys) (h.text m) ∙ append_assoc (string_bytes a.text) xs ys) (k.too_large m e)
bytes_too_large xs ys {a} {b} {c} h k n e (inr m) =
    let same : Some m.0 ≡ Some TooLarge = sym (k.stays m.0 m.1) ∙ e in
    longer (string_bytes a.text) xs ys (h.too_large n (m.1 ∙ same))

bytes_going : {bs : List ℕ} {b c : Writer} → WritesBytes bs none b c → c.stopped ≡ None → (b.stopped ≡ None) ⊎ ((s : Stop) × (b.stopped ≡ Some s)) → b.stopped ≡ None
bytes_going k e (inl m) = m
bytes_going k e (inr m) = absurd (let x = k.stays m.0 m.1 in cc)

kept_depth : (o : Option ℕ) → option_and_then (depth_behind none) o ≡ o
kept_depth None = refl
kept_depth (Some n) = refl

-- bytes behind bytes, none of which are brackets
pub bytes_then : (xs ys : List ℕ) {a b c : Writer} → WritesBytes xs none a b → WritesBytes ys none b c → WritesBytes (xs ++ ys) none a c
bytes_then xs ys {a} {b} {c} h k = record {
  stays = λ s e. k.stays s (h.stays s e);
  text = λ e. let m = bytes_going k e (stopped_or b.stopped) in k.text e ∙ ap (λ t. t ++ ys) (h.text m) ∙ append_assoc (string_bytes a.text) xs ys;
  depth = λ e. let m = bytes_going k e (stopped_or b.stopped) in k.depth e ∙ kept_depth (depth_of b) ∙ h.depth m;
  within = λ e i. k.within e (h.within (bytes_going k e (stopped_or b.stopped)) i);
  too_large = λ n e. bytes_too_large xs ys h k n e (stopped_or b.stopped);
}
