-- A module text is good or has one place, and its place has the kind of the fault that refuses the module.
use Rattle.std.proofs.Common.{◌≡◌, ◌≢◌, ℕ, ◌⊎◌, inl, inr, List, [], ◌∷◌, map, Option, Some, None, IfSome, refl, sym, ap, subst, ◌∙◌, arith}
use Rattle.std.specs.Str.{IsUtf8, chars}
use Rattle.rn_text.specs.Tokens as lexed
use Rattle.rn_text.specs.Tokens.{Lexeme, HasTokens, lexeme_of}
use Rattle.rn_text.specs.declared.source.Token.{Token}
use Rattle.rn_text.specs.declared.source.TextFault as reading
use Rattle.rn_text.specs.declared.source.TextFault.TheVariants as r
use Rattle.rn_text.proofs.TokenLists.TokensOrFault as told
use Rattle.rn_text.proofs.TokenLists.OneTokenList.{one_token_list}
use Rattle.rn_syntax.specs.declared.fault.FaultKind.{FaultKind}
use Rattle.rn_syntax.specs.declared.fault.SyntaxFault.{SyntaxFault}
use Rattle.rn_syntax.specs.declared.fault.SyntaxFault.TheVariants as s
use Rattle.rn_syntax.specs.Terminal.{◌#◌}
use Rattle.rn_syntax.specs.Grammar.{Tokens}
use Rattle.rn_syntax.specs.TokenTerminals.{terminals}
use Rattle.rn_syntax.specs.Beginnings.{HasTree, Stops}
use Rattle.rn_syntax.specs.Faults as parsing
use Rattle.rn_syntax.specs.Faults.{IsFault, IsFaultOfTree}
use Rattle.rn_syntax.specs.Places.{deep}
use Rattle.rn_syntax.specs.Spelled.{AreSpelled, BeginAt, last_end}
use Rattle.rn_syntax.proofs.FaultPlaces.OneFault as parsed
use Rattle.rn_assemble.specs.Refusal.{HasTextFault, IsFirstFault}
use Rattle.rn_assemble.proofs.Refusals.OneSet.{first_fault}
use Rattle.rn_assemble.proofs.Refusals.TextFaults.{faultless, first_lexical, first_of_tokens}
use Rattle.rn_merge.specs.declared.text_faults.Place.{Place}
use Rattle.rn_merge.specs.declared.text_faults.Place.TheVariants.{Encoding, Lexical, Memory}
use Rattle.rn_merge.specs.TextFaults.{AreTokensOf, IsGood, HasSyntaxFault, HasPlace, kind_and_place, syntax_place}
use Rattle.rn_merge.specs.inside.Outcomes.{text_place}
use Rattle.rn_merge.specs.Kinds.{kind_alone, kind_of}
use Rattle.rn_merge.proofs.FaultsOfTexts.TokenFaults.{tokens_of, placed}

-- ---- tokens of a text, as those of a source

abbrev token_of : Lexeme → Token
token_of l = record { kind = l.kind; text = record { ref_ptr = (0, 0); now = l.text }; start = l.start; end = l.end }

source_tokens : (ls : List Lexeme) → (xs : List Token) × (map lexeme_of xs ≡ ls)
source_tokens [] = ([], refl)
source_tokens (l ∷ ls) = let rest = source_tokens ls in (token_of l ∷ rest.0, ap (λ t. l ∷ t) rest.1)

last_end_same : (xs ys : List Token) → map lexeme_of xs ≡ map lexeme_of ys → last_end xs ≡ last_end ys
last_end_same [] [] e = refl
last_end_same [] (y ∷ ys) e = cc
last_end_same (x ∷ xs) [] e = cc
last_end_same (x ∷ []) (y ∷ []) e = let h : lexeme_of x ≡ lexeme_of y = cc in ap (λ (l : Lexeme). l.end) h
last_end_same (x ∷ []) (y ∷ z ∷ ys) e = let h : ◌≡◌ {A = List Lexeme} [] (lexeme_of z ∷ map lexeme_of ys) = cc in cc
last_end_same (x ∷ w ∷ xs) (y ∷ []) e = let h : ◌≡◌ {A = List Lexeme} (lexeme_of w ∷ map lexeme_of xs) [] = cc in cc
last_end_same (x ∷ w ∷ xs) (y ∷ z ∷ ys) e = last_end_same (w ∷ xs) (z ∷ ys) (let h : map lexeme_of (w ∷ xs) ≡ map lexeme_of (z ∷ ys) = cc in h)

-- a fault of tokens is one of others that are the same in bytes and places
module _ (xs ys : List Token) (spelled : AreSpelled xs) (same : map lexeme_of xs ≡ map lexeme_of ys) where
  alike : terminals (map lexeme_of xs) ≡ terminals (map lexeme_of ys)
  alike = ap terminals same

  place_moved : (bad : Tokens) (at : ℕ) → BeginAt xs bad at → BeginAt ys bad at
  place_moved [] at h = h ∙ last_end_same xs ys same
  place_moved (t # i ∷ bad) at h = h

  tree_moved : (e : SyntaxFault) → IsFaultOfTree xs e → IsFaultOfTree ys e
  tree_moved e (d, of) = (
    subst (λ (ts : Tokens). deep 0 ts ≡ None) alike d,
    λ _. let m = of spelled in (m.0, subst (λ (ts : Tokens). HasTree ts m.0) alike m.1, m.2),
  )

  moved : (e : SyntaxFault) → IsFault xs e → IsFault ys e
  moved (s.Deep at) h = subst (λ (ts : Tokens). deep 0 ts ≡ Some at) alike h
  moved (s.Syntax at) (d, stops) = (
    subst (λ (ts : Tokens). deep 0 ts ≡ None) alike d,
    λ _. let found = stops spelled in (found.0, subst (λ (ts : Tokens). Stops ts found.0) alike found.1, place_moved found.0 at found.2),
  )
  moved s.Memory h = tt
  moved e h = tree_moved e h

-- ---- the side that a fault is of

record OfBytes (text : List ℕ) (place : Place) : Type 0 where
  fault : reading.TextFault
  has : lexed.HasFault text fault
  some : fault ≢ r.Memory
  is : place ≡ text_place fault

record OfTokens (text : List ℕ) (place : Place) : Type 0 where
  tokens : List Token
  are : AreTokensOf text tokens
  fault : SyntaxFault
  has : IsFault tokens fault
  some : fault ≢ s.Memory
  is : place ≡ syntax_place fault

of_side : (text : List ℕ) (place : Place) → HasPlace text place → place ≢ Memory → OfBytes text place ⊎ OfTokens text place
of_side text (Encoding at) h n = inl (record { fault = r.Encoding at; has = h; some = λ e. cc; is = refl })
of_side text (Lexical at) h n = inl (record { fault = r.Lexical at; has = h; some = λ e. cc; is = refl })
of_side text Memory h n = absurd (n refl)
of_side text place (xs, t, f, is, h) n = inr (record { tokens = xs; are = t; fault = f; has = h; some = λ e. n (sym is ∙ ap syntax_place e); is = sym is })

-- what has tokens has no fault of its bytes
not_of_bytes : (text : List ℕ) (place : Place) (xs : List Token) → AreTokensOf text xs → ¬ OfBytes text place
not_of_bytes text place xs t b = b.some (told.no_fault text (map lexeme_of xs) b.fault t.utf8 t.are b.has)

same_tokens : (text : List ℕ) (xs ys : List Token) → AreTokensOf text xs → AreTokensOf text ys → map lexeme_of xs ≡ map lexeme_of ys
same_tokens text xs ys t u = one_token_list (chars text) (map lexeme_of xs) (map lexeme_of ys) t.are u.are

one_side : (text : List ℕ) (place other : Place) → OfBytes text place ⊎ OfTokens text place → OfBytes text other ⊎ OfTokens text other → place ≡ other
one_side text place other (inl a) (inl b) = a.is ∙ ap text_place (told.one_fault text a.fault b.fault a.has b.has a.some b.some) ∙ sym b.is
one_side text place other (inl a) (inr b) = absurd (not_of_bytes text place b.tokens b.are a)
one_side text place other (inr a) (inl b) = absurd (not_of_bytes text other a.tokens a.are b)
one_side text place other (inr a) (inr b) =
    let there = moved b.tokens a.tokens b.are.are_spelled (same_tokens text b.tokens a.tokens b.are a.are) b.fault b.has in
    a.is ∙ ap syntax_place (parsed.one_fault a.tokens a.are.are_spelled a.fault b.fault a.has there a.some b.some) ∙ sym b.is

pub one_place : (text : List ℕ) (place other : Place) → HasPlace text place → HasPlace text other → place ≢ Memory → other ≢ Memory → place ≡ other
one_place text place other x y p q = one_side text place other (of_side text place x p) (of_side text other y q)

memory_by : (place : Place) → ((place ≢ Memory) → ⊥) → place ≡ Memory
memory_by Memory h = refl
memory_by place h = absurd (h (λ e. cc))

good_side : (text : List ℕ) (place : Place) → IsGood text → OfBytes text place ⊎ OfTokens text place → ⊥
good_side text place (xs, m, t, d, tree, none) (inl b) = not_of_bytes text place xs t b
good_side text place (xs, m, t, d, tree, none) (inr b) =
    b.some (parsed.no_fault xs t.are_spelled m b.fault d tree none (moved b.tokens xs b.are.are_spelled (same_tokens text b.tokens xs b.are t) b.fault b.has))

pub not_both : (text : List ℕ) (place : Place) → IsGood text → HasPlace text place → place ≡ Memory
not_both text place good h = memory_by place (λ n. good_side text place good (of_side text place h n))

-- ---- one of both

bytes_memory : (f : reading.TextFault) → text_place f ≡ Memory → f ≡ r.Memory
bytes_memory (r.Encoding at) e = cc
bytes_memory (r.Lexical at) e = cc
bytes_memory r.Memory e = refl

syntax_memory : (f : SyntaxFault) → syntax_place f ≡ Memory → f ≡ s.Memory
syntax_memory s.Memory e = refl
syntax_memory f e = cc

bytes_placed : (text : List ℕ) (f : reading.TextFault) → lexed.HasFault text f → HasPlace text (text_place f)
bytes_placed text (r.Encoding at) h = h
bytes_placed text (r.Lexical at) h = h
bytes_placed text r.Memory h = tt

module _ (text : List ℕ) (bad : ¬ IsGood text) (none : (place : Place) → HasPlace text place → place ≡ Memory) where
  never_tokens : (xs : List Token) → AreTokensOf text xs → ⊥
  never_tokens xs t = parsed.never_neither xs t.are_spelled (λ m sound. bad (xs, m, t, sound.0, sound.1, sound.2))
      (λ e h. syntax_memory e (none (syntax_place e) (placed text xs e t h)))

  never_source : (ls : List Lexeme) → IsUtf8 text → HasTokens (chars text) ls → ⊥
  never_source ls u has = let xs = source_tokens ls in never_tokens xs.0 (tokens_of text xs.0 (u, subst (HasTokens (chars text)) (sym xs.1) has))

  pub never_neither : ⊥
  never_neither = elim (told.source_told text) [
    | inl t ↦ never_source t.0 t.1 t.2
    | inr f ↦ f.2 (bytes_memory f.0 (none (text_place f.0) (bytes_placed text f.0 f.1)))
  ]

-- ---- the kinds that refuse a module

pub good : (text : List ℕ) → IsGood text → (fault : FaultKind) → ¬ HasTextFault text fault
good text (xs, m, t, d, tree, none) fault = (faultless text t.utf8 (map lexeme_of xs) t.are d m tree none).faultless fault

-- the kind of a place is that of its fault
its_kind : (f : SyntaxFault) → kind_and_place (syntax_place f) ≡ parsing.kind_and_place f
its_kind s.Memory = refl
its_kind f = refl

kind_told : (P : FaultKind → Type 0) (o : Option (FaultKind × ℕ)) → IfSome o (λ k. P k.0) → IfSome (kind_alone o) P
kind_told P None h = tt
kind_told P (Some k) h = h

first_of : (text : List ℕ) (place : Place) → HasSyntaxFault text place → IfSome (kind_of place) (IsFirstFault text)
first_of text place (xs, t, f, is, h) = subst (λ p. IfSome (kind_of p) (IsFirstFault text)) is
    (subst (λ o. IfSome (kind_alone o) (IsFirstFault text)) (sym (its_kind f)) (kind_told (IsFirstFault text) (parsing.kind_and_place f) (first_of_tokens text xs t.utf8 t.are f h)))

pub first : (text : List ℕ) (place : Place) → HasPlace text place → IfSome (kind_of place) (IsFirstFault text)
first text (Encoding at) h = (h.0, λ g lower. absurd (omega (arith, lower)))
first text (Lexical at) h = first_lexical text h.0 at h.1
first text Memory h = tt
first text place h = first_of text place h

no_kind : (place : Place) → kind_of place ≡ None → place ≡ Memory
no_kind Memory e = refl
no_kind place e = cc

-- a text without such faults has no place
lacks_place : (text : List ℕ) (place : Place) → ((fault : FaultKind) → ¬ HasTextFault text fault) → (k : Option FaultKind) → kind_of place ≡ k → IfSome k (IsFirstFault text) → place ≡ Memory
lacks_place text place none None e h = no_kind place e
lacks_place text place none (Some f) e h = absurd (none f h.0)

pub faultless_good : (text : List ℕ) → ((fault : FaultKind) → ¬ HasTextFault text fault) → ¬ (¬ IsGood text)
faultless_good text none bad = never_neither text bad (λ place h. lacks_place text place none (kind_of place) refl (first text place h))

other_place : (text : List ℕ) (fault : FaultKind) (place : Place) → IsFirstFault text fault → kind_of place ≢ Some fault → (k : Option FaultKind) → kind_of place ≡ k → IfSome k (IsFirstFault text) → place ≡ Memory
other_place text fault place x n None e h = no_kind place e
other_place text fault place x n (Some g) e h = absurd (n (e ∙ ap Some (first_fault text g fault h x)))

pub first_placed : (text : List ℕ) (fault : FaultKind) → IsFirstFault text fault → ¬ ((place : Place) → HasPlace text place → kind_of place ≢ Some fault)
first_placed text fault x none = never_neither text (λ is_good. good text is_good fault x.0)
    (λ place h. other_place text fault place x (none place h) (kind_of place) refl (first text place h))
