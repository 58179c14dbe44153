-- Tokens are a module without a fault or have a fault, never both, and one fault.
use Rattle.std.proofs.Common.{◌≡◌, ◌≢◌, ℕ, zero, suc, ◌+◌, ◌<◌, ◌⊎◌, inl, inr, ⊎_elim, List, [], ◌∷◌, ◌++◌, map, Option, Some, None, MatchOption, refl, sym, ap, ◌∙◌, subst, arith, append-nil, append_assoc}
use Rattle.std.proofs.lemmas.Bool.{cases_order}
use Rattle.rn_text.specs.declared.source.Token.{Token}
use Rattle.rn_text.specs.Tokens.{lexeme_of}
use Rattle.rn_syntax.specs.declared.fault.FaultKind.{FaultKind}
use Rattle.rn_syntax.specs.declared.fault.SyntaxFault.{SyntaxFault}
use Rattle.rn_syntax.specs.declared.fault.SyntaxFault.TheVariants.{Deep, Syntax, Memory}
use Rattle.rn_syntax.specs.Terminal.{Placed, ◌#◌}
use Rattle.rn_syntax.specs.Tree.{Module}
use Rattle.rn_syntax.specs.Grammar as g
use Rattle.rn_syntax.specs.Grammar.{Tokens}
use Rattle.rn_syntax.specs.TokenTerminals.{terminals}
use Rattle.rn_syntax.specs.Beginnings.{HasTree, Begins, IsRefused, Stops}
use Rattle.rn_syntax.specs.Faults.{kind_rank, kind_places, kind_and_place, HasNoFault, IsFirstOfKinds, HasModuleFault, StopsAt, IsFaultOfTree, IsFault}
use Rattle.rn_syntax.specs.Places.{deep, first}
use Rattle.rn_syntax.specs.Spelled.{AreSpelled, BeginAt, last_end}
use Rattle.rn_syntax.proofs.FaultPlaces.TreeFaults.{found_fault}
use Rattle.rn_syntax.proofs.FaultPlaces.FaultKinds.{fault_at, fault_here, no_memory, one_kind, same_fault}
use Rattle.rn_syntax.proofs.OneReading.OneTree.{one_tree}

-- ---- where tokens stop to begin a module

-- what begins a longer front begins a shorter one
begins_shorter : (front more : Tokens) (x : Placed) → Begins (front ++ x ∷ more) → Begins (front ++ x ∷ [])
begins_shorter front more x (after, m, tree) =
    (more ++ after, m, subst (λ (ts : Tokens). HasTree ts m) (append_assoc front (x ∷ more) after ∙ sym (append_assoc front (x ∷ []) (more ++ after))) tree)

-- tokens that stop to begin a module have no tree
pub no_tree : (ts bad : Tokens) → Stops ts bad → (m : Module) → ¬ HasTree ts m
no_tree ts bad stops m tree = go bad stops.refused stops.cut
  where
    go : (bad : Tokens) → IsRefused stops.front bad → ts ≡ stops.front ++ bad → ⊥
    go [] refused cut = refused m (subst (λ (us : Tokens). HasTree us m) (cut ∙ append-nil stops.front) tree)
    go (x ∷ more) refused cut = refused (more, m, subst (λ (us : Tokens). HasTree us m) (cut ∙ sym (append_assoc stops.front (x ∷ []) more)) tree)

-- of two fronts of one list one goes on to the other
record Continues (a b x y : Tokens) : Type 0 where
  rest : Tokens
  whole : b ≡ a ++ rest
  left : x ≡ rest ++ y

one_way : (a b x y : Tokens) → a ++ x ≡ b ++ y → Continues a b x y ⊎ Continues b a y x
one_way [] b x y e = inl (record { rest = b; whole = refl; left = e })
one_way (c ∷ a) [] x y e = inr (record { rest = c ∷ a; whole = refl; left = sym e })
one_way (c ∷ a) (d ∷ b) x y e =
    let heads : c ≡ d = cc in
    let tails : a ++ x ≡ b ++ y = cc in
    elim (one_way a b x y tails) [
      | inl j ↦ inl (record { rest = j.rest; whole = λ i. sym heads i ∷ j.whole i; left = j.left })
      | inr j ↦ inr (record { rest = j.rest; whole = λ i. heads i ∷ j.whole i; left = j.left })
    ]

-- a front that begins a module doesn't go on behind one that is refused
same_stop : (a b x y : Tokens) → IsRefused a x → Begins b → Continues a b x y → x ≡ y
same_stop a b x y refused begins j = go x j.rest refused j.whole j.left
  where
    go : (x rest : Tokens) → IsRefused a x → b ≡ a ++ rest → x ≡ rest ++ y → x ≡ y
    go x [] refused whole left = left
    go [] (r ∷ rest) refused whole left = cc
    go (z ∷ zs) (r ∷ rest) refused whole left =
        let same : z ≡ r = cc in
        absurd (refused (begins_shorter a rest z (subst Begins (whole ∙ ap (λ (w : Placed). a ++ w ∷ rest) (sym same)) begins)))

pub one_stop : (ts x y : Tokens) → Stops ts x → Stops ts y → x ≡ y
one_stop ts x y s t = elim (one_way s.front t.front x y (sym s.cut ∙ t.cut)) [
  | inl j ↦ same_stop s.front t.front x y s.refused t.begins j
  | inr j ↦ sym (same_stop t.front s.front y x t.refused s.begins j)
]

one_place : (xs : List Token) (bad : Tokens) (i j : ℕ) → BeginAt xs bad i → BeginAt xs bad j → i ≡ j
one_place xs [] i j x y = x ∙ sym y
one_place xs (t # k ∷ bad) i j x y = x ∙ sym y

stop_place : (xs : List Token) (i j : ℕ) → StopsAt xs i → StopsAt xs j → i ≡ j
stop_place xs i j s t = one_place xs s.0 i j s.2 (subst (λ (bad : Tokens). BeginAt xs bad j) (one_stop _ t.0 s.0 t.1 s.1) t.2)

-- ---- one fault, and none where the module has none

one_some : {i j : ℕ} (o : Option ℕ) → o ≡ Some i → o ≡ Some j → i ≡ j
one_some o x y = cc

none_some : {i : ℕ} (o : Option ℕ) → o ≡ None → o ≡ Some i → ⊥
none_some o x y = cc

-- of two first faults of a tree neither is before the other
same_first : (m : Module) (j k : FaultKind) (a b : ℕ) → IsFirstOfKinds m j a → IsFirstOfKinds m k b → j ≡ k
same_first m j k a b x y =
    ⊎_elim (λ same. one_kind j k same) (⊎_elim (λ less. absurd (none_some _ (y.before j less) x.place)) (λ more. absurd (none_some _ (x.before k more) y.place))) (cases_order (kind_rank j) (kind_rank k))

one_first : (m : Module) (j k : FaultKind) (a b : ℕ) → IsFirstOfKinds m j a → IsFirstOfKinds m k b → fault_at j a ≡ fault_at k b
one_first m j k a b x y =
    let same = same_first m j k a b x y in
    let place : a ≡ b = one_some (first (kind_places k m)) (subst (λ i. first (kind_places i m) ≡ Some a) same x.place) y.place in
    λ i. fault_at (same i) (place i)

-- the fault of a tree, with its kind and place
record OfKind (m : Module) (e : SyntaxFault) : Type 0 where
  kind : FaultKind
  at : ℕ
  is : e ≡ fault_at kind at
  first_one : IsFirstOfKinds m kind at

of_kind : (m : Module) (e : SyntaxFault) (o : Option (FaultKind × ℕ)) → kind_and_place e ≡ o → MatchOption o ⊥ (λ k. IsFirstOfKinds m k.0 k.1) → OfKind m e
of_kind m e None is h = absurd h
of_kind m e (Some k) is h = record { kind = k.0; at = k.1; is = same_fault e k.0 k.1 is; first_one = h }

pub fault_of_tree : (m : Module) (e f : SyntaxFault) → HasModuleFault m e → HasModuleFault m f → e ≡ f
fault_of_tree m e f x y =
    let a = of_kind m e (kind_and_place e) refl x in
    let b = of_kind m f (kind_and_place f) refl y in
    a.is ∙ one_first m a.kind b.kind a.at b.at a.first_one b.first_one ∙ sym b.is

no_fault_of_tree : (m : Module) (e : SyntaxFault) → HasNoFault m → ¬ HasModuleFault m e
no_fault_of_tree m e none x = let a = of_kind m e (kind_and_place e) refl x in none_some _ (none a.kind) a.first_one.place

-- how far tokens are read: a bracket is too many, they are no module, or they are a module, whose tree may have a fault
data Kind : Type 0 where
  too_deep : ℕ → Kind
  no_module : ℕ → Kind
  a_module : Module → SyntaxFault → Kind

module _ (xs : List Token) (spelled : AreSpelled xs) where
  abbrev ts : Tokens
  ts = terminals (map lexeme_of xs)

  abbrev IsKind : SyntaxFault → Kind → Type 0
  IsKind e (too_deep at) = (deep 0 ts ≡ Some at) × (e ≡ Deep at)
  IsKind e (no_module at) = (deep 0 ts ≡ None) × StopsAt xs at × (e ≡ Syntax at)
  IsKind e (a_module m f) = (deep 0 ts ≡ None) × HasTree ts m × HasModuleFault m f × (e ≡ f)

  tree_kind : (e : SyntaxFault) → IsFaultOfTree xs e → (k : Kind) × IsKind e k
  tree_kind e (d, of) = let m = of spelled in (a_module m.0 e, (d, m.1, m.2, refl))

  kind_of : (e : SyntaxFault) → IsFault xs e → e ≢ Memory → (k : Kind) × IsKind e k
  kind_of (Deep at) x n = (too_deep at, (x, refl))
  kind_of (Syntax at) x n = (no_module at, (x.0, x.1 spelled, refl))
  kind_of Memory x n = absurd (n refl)
  kind_of e x n = tree_kind e x

  same_kind : (e f : SyntaxFault) (k l : Kind) → IsKind e k → IsKind f l → e ≡ f
  same_kind e f (too_deep i) (too_deep j) x y = x.1 ∙ ap Deep (one_some _ x.0 y.0) ∙ sym y.1
  same_kind e f (too_deep i) (no_module j) x y = absurd (none_some _ y.0 x.0)
  same_kind e f (too_deep i) (a_module n h) x y = absurd (none_some _ y.0 x.0)
  same_kind e f (no_module i) (too_deep j) x y = absurd (none_some _ x.0 y.0)
  same_kind e f (no_module i) (no_module j) x y = x.2 ∙ ap Syntax (stop_place xs i j x.1 y.1) ∙ sym y.2
  same_kind e f (no_module i) (a_module n h) x y = absurd (no_tree ts x.1.0 x.1.1 n y.1)
  same_kind e f (a_module m g) (too_deep j) x y = absurd (none_some _ x.0 y.0)
  same_kind e f (a_module m g) (no_module j) x y = absurd (no_tree ts y.1.0 y.1.1 m x.1)
  same_kind e f (a_module m g) (a_module n h) x y = x.3 ∙ fault_of_tree m g h x.2 (subst (λ z. HasModuleFault z h) (one_tree ts n m y.1 x.1) y.2) ∙ sym y.3

  pub one_fault : (e f : SyntaxFault) → IsFault xs e → IsFault xs f → e ≢ Memory → f ≢ Memory → e ≡ f
  one_fault e f x y p q =
      let k = kind_of e x p in
      let l = kind_of f y q in
      same_kind e f k.0 l.0 k.1 l.1

  -- a module without a fault
  abbrev IsSound : Module → Type 0
  IsSound m = (deep 0 ts ≡ None) × HasTree ts m × HasNoFault m

  not_of_kind : (m : Module) (e : SyntaxFault) (k : Kind) → IsSound m → ¬ IsKind e k
  not_of_kind m e (too_deep i) s x = none_some _ s.0 x.0
  not_of_kind m e (no_module i) s x = no_tree ts x.1.0 x.1.1 m s.1
  not_of_kind m e (a_module n f) s x = no_fault_of_tree m f s.2 (subst (λ z. HasModuleFault z f) (one_tree ts n m x.1 s.1) x.2)

  memory_by : (e : SyntaxFault) → ((e ≢ Memory) → ⊥) → e ≡ Memory
  memory_by Memory h = refl
  memory_by e h = absurd (h (λ e. cc))

  pub no_fault : (m : Module) (e : SyntaxFault) → deep 0 ts ≡ None → HasTree ts m → HasNoFault m → IsFault xs e → e ≡ Memory
  no_fault m e d tree none x = memory_by e (λ n. let k = kind_of e x n in not_of_kind m e k.0 (d, tree, none) k.1)

  -- ---- one of both

  -- where tokens have no tree, they stop somewhere
  stops : (front bad : Tokens) → ts ≡ front ++ bad → Begins front → ((m : Module) → ¬ HasTree ts m) → ((b : Tokens) → ¬ Stops ts b) → ⊥
  stops front [] cut begins none never = never [] (record { front = front; cut = cut; begins = begins; refused = λ m tree. none m (subst (λ (us : Tokens). HasTree us m) (sym (cut ∙ append-nil front)) tree) })
  stops front (x ∷ more) cut begins none never =
      never (x ∷ more) (record { front = front; cut = cut; begins = begins; refused = λ further. stops (front ++ x ∷ []) more (cut ∙ sym (append_assoc front (x ∷ []) more)) further none never })

  empty_module : Begins []
  empty_module = ([], record { declarations = []; items = _ }, g.items g.none g.none)

  -- the place of a token, or of the end
  begins_at : (bad : Tokens) → (at : ℕ) × BeginAt xs bad at
  begins_at [] = (last_end xs, refl)
  begins_at (t # i ∷ bad) = (i, refl)

  module _ (faultless : (e : SyntaxFault) → IsFault xs e → e ≡ Memory) (shallow : deep 0 ts ≡ None) where
    module _ (m : Module) (tree : HasTree ts m) where
      -- a kind before which there is none, by its first place
      none_here : (k : FaultKind) → ((j : FaultKind) → kind_rank j < kind_rank k → first (kind_places j m) ≡ None) → (o : Option ℕ) → first (kind_places k m) ≡ o → o ≡ None
      none_here k before None e = refl
      none_here k before (Some at) e =
          let has : HasModuleFault m (fault_at k at) = fault_here m k at (record { place = e; before = before }) in
          let is : fault_at k at ≡ Memory = faultless (fault_at k at) (found_fault xs m (fault_at k at) shallow (λ s. tree) has) in
          absurd (no_memory k at is)

      none_before : (n : ℕ) (k : FaultKind) → kind_rank k < n → first (kind_places k m) ≡ None
      none_before zero k l = absurd (omega (arith, l))
      none_before (suc n) k l = none_here k (λ j less. none_before n j (omega (arith, l, less))) (first (kind_places k m)) refl

      sound_tree : IsSound m
      sound_tree = (shallow, tree, λ k. none_before (kind_rank k + 1) k (omega arith))

    never_stops : (bad : Tokens) → ¬ Stops ts bad
    never_stops bad s =
        let at = begins_at bad in
        let e : Syntax at.0 ≡ Memory = faultless (Syntax at.0) (shallow, λ _. (bad, s, at.1)) in
        let k : Syntax at.0 ≢ Memory = λ z. cc in
        k e

    sound_by : ((m : Module) → ¬ IsSound m) → ⊥
    sound_by none = stops [] ts refl empty_module (λ m tree. none m (sound_tree m tree)) never_stops

  deep_told : ((e : SyntaxFault) → IsFault xs e → e ≡ Memory) → ((m : Module) → ¬ IsSound m) → (d : Option ℕ) → deep 0 ts ≡ d → ⊥
  deep_told faultless none None d = sound_by faultless d none
  deep_told faultless none (Some at) d = let e : Deep at ≡ Memory = faultless (Deep at) d in let k : Deep at ≢ Memory = λ z. cc in k e

  pub never_neither : ((m : Module) → ¬ ((deep 0 ts ≡ None) × HasTree ts m × HasNoFault m)) → ((e : SyntaxFault) → IsFault xs e → e ≡ Memory) → ⊥
  never_neither none faultless = deep_told faultless none (deep 0 ts) refl
