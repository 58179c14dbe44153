-- A set has one list of modules at most, and one first refusal at most, where tokens have one tree at most.
use Rattle.std.proofs.Common.{◌≡◌, ◌⊎◌, ℕ, inl, inr, ⊎_elim, List, [], ◌∷◌, refl, sym, ap, ◌∙◌, subst, arith, Contains, Less}
use Rattle.std.specs.List.{AllZip}
use Rattle.std.specs.List.Sorted.{IsStrictlySortedBy}
use Rattle.std.specs.Str.{chars}
use Rattle.std.proofs.lemmas.Bool.{cases_order}
use Rattle.std.proofs.lemmas.Cmp.{nat_list_cmp_total}
use Rattle.rn_text.proofs.TokenLists.OneTokenList.{one_token_list}
use Rattle.rn_text.specs.Texts.{Text, text_cmp}
use Rattle.rn_pattern.specs.Matching.{Grammar}
use Rattle.rn_pattern.proofs.Ordered.Ascending.{AllAbove}
use Rattle.rn_pattern.proofs.Ordered.InOrder.{by_name, one_by_name, text_no_less, contained_each, contains_cases}
use Rattle.rn_pattern.proofs.Ordered.Orders.{text_same}
use Rattle.rn_modset.specs.Contributions.{Member}
use Rattle.rn_modset.specs.Modules.{Module, IsHighest, IsFirstConflict, AreEffective}
use Rattle.rn_syntax.specs.declared.fault.FaultKind.{FaultKind}
use Rattle.rn_syntax.specs.Faults.{kind_rank}
use Rattle.rn_syntax.specs.Grammar.{Tokens}
use Rattle.rn_syntax.specs.Tree as t
use Rattle.rn_syntax.specs.TokenTerminals.{terminals}
use Rattle.rn_syntax.specs.Beginnings.{HasTree}
use Rattle.rn_syntax.proofs.FaultPlaces.FaultKinds.{one_kind}
use Rattle.rn_assemble.specs.Components.{NamedModule}
use Rattle.rn_assemble.specs.Refusal.{IsFirstFault, IsFaulty, Refusal, conflict, faulty, rank, IsModuleOf, StandsFor, AreModules, Stands, IsFirst, IsAssembled, grammar_of}
use Rattle.rn_assemble.specs.Least.{IsLeast}
use Rattle.rn_assemble.proofs.Refusals.OneRefusal.{same_at, least_text, one_of_rank}

-- a name has one entry in a list in order of names
above_itself : {V : Type 0} (x : Text) (v w : V) (ds : List (Text × V)) → AllAbove by_name (x, v) ds → Contains {X = Text × V} ds (x, w) → ⊥
above_itself x v w ds h c = let less : text_cmp x x ≡ Less = contained_each (λ e. by_name (x, v) e ≡ Less) ds h (x, w) c in text_no_less x x less less

one_entry_at : {V : Type 0} (e : Text × V) (ds : List (Text × V)) (x : Text) (v w : V) → AllAbove by_name e ds → (Contains {X = Text × V} ds (x, v) → Contains {X = Text × V} ds (x, w) → v ≡ w)
    → (◌≡◌ {A = Text × V} e (x, v)) ⊎ Contains {X = Text × V} ds (x, v) → (◌≡◌ {A = Text × V} e (x, w)) ⊎ Contains {X = Text × V} ds (x, w) → v ≡ w
one_entry_at e ds x v w h ih (inl a) (inl b) = ap (λ (p : Text × _). p.1) (sym a ∙ b)
one_entry_at e ds x v w h ih (inl a) (inr b) = absurd (above_itself x v w ds (subst (λ (p : Text × _). AllAbove by_name p ds) a h) b)
one_entry_at e ds x v w h ih (inr a) (inl b) = absurd (above_itself x w v ds (subst (λ (p : Text × _). AllAbove by_name p ds) b h) a)
one_entry_at e ds x v w h ih (inr a) (inr b) = ih a b

one_entry : {V : Type 0} (ds : List (Text × V)) → IsStrictlySortedBy by_name ds → (x : Text) (v w : V) → Contains {X = Text × V} ds (x, v) → Contains {X = Text × V} ds (x, w) → v ≡ w
unfolding IsStrictlySortedBy
one_entry [] h x v w (i, l, is) d = absurd (omega (arith, l))
one_entry (e ∷ ds) h x v w c d = one_entry_at e ds x v w h.0 (one_entry ds h.1 x v w) (contains_cases e (x, v) ds c) (contains_cases e (x, w) ds d)

pub first_fault : (text : Text) (f g : FaultKind) → IsFirstFault text f → IsFirstFault text g → f ≡ g
first_fault text f g s t = ⊎_elim (λ e. one_kind f g e) (⊎_elim (λ h. absurd (t.1 f h s.0)) (λ h. absurd (s.1 g h t.0))) (cases_order (kind_rank f) (kind_rank g))

one_revision : (s : List Member) (x : Text) (r q : ℕ) → IsHighest s x r → IsHighest s x q → r ≡ q
one_revision s x r q h k = omega (arith, h.highest q k.text k.held, k.highest r h.text h.held)

pub one_effective : (s : List Member) (xs ys : List Module) → AreEffective s xs → AreEffective s ys → xs ≡ ys
one_effective s xs ys a b = one_by_name xs ys a.in_order b.in_order (λ x h. (b.are x.0 x.1).1 ((a.are x.0 x.1).0 h)) (λ x h. (a.are x.0 x.1).1 ((b.are x.0 x.1).0 h))

module _ (one_tree : (ts : Tokens) (m n : t.Module) → HasTree ts m → HasTree ts n → m ≡ n) where
  pub one_module_of : (text : Text) (m n : t.Module) → IsModuleOf text m → IsModuleOf text n → m ≡ n
  one_module_of text m n (u, (ts, has, tree)) (v, (us, other, tree')) =
      let same : ts ≡ us = one_token_list (chars text) ts us has other in
      one_tree (terminals us) m n (subst (λ l. HasTree (terminals l) m) same tree) tree'

  one_tree_each : (x : Module) (m n : NamedModule) → (m.name ≡ x.0) × IsModuleOf x.1 m.tree → (n.name ≡ x.0) × IsModuleOf x.1 n.tree → m ≡ n
  one_tree_each x m n h k =
      let name : m.name ≡ n.name = h.0 ∙ sym k.0 in
      let tree : m.tree ≡ n.tree = one_module_of x.1 m.tree n.tree h.1 k.1 in
      λ i. record { name = name i; tree = tree i }

  modules : (xs : List Module) (ms ns : List NamedModule) → AllZip (λ (x : Module) (m : NamedModule). (m.name ≡ x.0) × IsModuleOf x.1 m.tree) xs ms → AllZip (λ (x : Module) (m : NamedModule). (m.name ≡ x.0) × IsModuleOf x.1 m.tree) xs ns → ms ≡ ns
  modules [] [] [] h k = refl
  modules [] [] (n ∷ ns) h k = absurd k
  modules [] (m ∷ ms) ns h k = absurd h
  modules (x ∷ xs) [] ns h k = absurd h
  modules (x ∷ xs) (m ∷ ms) [] h k = absurd k
  modules (x ∷ xs) (m ∷ ms) (n ∷ ns) h k = let first = one_tree_each x m n h.0 k.0 in let rest = modules xs ms ns h.1 k.1 in λ i. first i ∷ rest i

  module _ (s : List Member) where
    -- the set has one list of modules
    pub one_modules : (ms ns : List NamedModule) → AreModules s ms → AreModules s ns → ms ≡ ns
    one_modules ms ns a b =
        let same : a.texts ≡ b.texts = one_effective s a.texts b.texts a.are_effective b.are_effective in
        modules b.texts ms ns (subst (λ (xs : List Module). AllZip (λ (x : Module) (m : NamedModule). (m.name ≡ x.0) × IsModuleOf x.1 m.tree) xs ms) same a.trees) b.trees

    abbrev OfModules : Refusal → Type 0
    OfModules r = (modules : List NamedModule) × AreModules s modules × StandsFor modules r

    by_modules : (q r : Refusal) → rank q ≡ rank r → OfModules q → OfModules r → q ≡ r
    by_modules q r e (ms, a, h) (ns, b, k) = one_of_rank ns q r e (subst (λ (l : List NamedModule). StandsFor l q) (one_modules ms ns a b) h) k

    one_conflict : (x y : Text) (r q : ℕ) → IsFirstConflict s x r → IsFirstConflict s y q → conflict x r ≡ conflict y q
    one_conflict x y r q h k =
        let name : x ≡ y = same_at text_cmp x y (text_cmp x y) nat_list_cmp_total.antisymm text_same refl (k.1 x r h.0) (h.1 y q k.0) in
        let revision : r ≡ q = one_revision s y r q (subst (λ z. IsHighest s z r) name h.0.0) k.0.0 in
        λ i. conflict (name i) (revision i)

    one_faulty : (f g : FaultKind) (x y : Text) → Stands s (faulty f x) → Stands s (faulty g y) → faulty f x ≡ faulty g y
    one_faulty f g x y (xs, a, least, (text, inside, first)) (ys, b, least', (text', inside', first')) =
        let same : xs ≡ ys = one_effective s xs ys a b in
        let name : x ≡ y = least_text _ x y (subst (λ (l : List Module). IsLeast text_cmp (IsFaulty l) x) same least) least' in
        let here : Contains {X = Text × Text} ys (y, text) = subst (λ z. Contains {X = Text × Text} ys (z, text)) name (subst (λ (l : List Module). Contains {X = Text × Text} l (x, text)) same inside) in
        let one_text : text ≡ text' = one_entry ys b.in_order y text text' here inside' in
        let kind : f ≡ g = first_fault text' f g (subst (λ z. IsFirstFault z f) one_text first) first' in
        λ i. faulty (kind i) (name i)

    one_of_set : (q r : Refusal) → rank q ≡ rank r → Stands s q → Stands s r → q ≡ r
    one_of_set (conflict x r) (conflict y q) e h k = one_conflict x y r q h k
    one_of_set (faulty f x) (faulty g y) e h k = one_faulty f g x y h k
    one_of_set (conflict x r) q e h k = absurd (omega (arith, e))
    one_of_set (faulty f x) q e h k = absurd (omega (arith, e))
    one_of_set q (conflict y p) e h k = absurd (omega (arith, e))
    one_of_set q (faulty g y) e h k = absurd (omega (arith, e))
    one_of_set q r e h k = by_modules q r e h k

    -- one refusal is the first
    pub first_of_set : (q r : Refusal) → IsFirst s q → IsFirst s r → q ≡ r
    first_of_set q r h k = ⊎_elim (λ e. one_of_set q r e h.0 k.0) (⊎_elim (λ l. absurd (k.1 q l h.0)) (λ l. absurd (h.1 r l k.0))) (cases_order (rank q) (rank r))

    -- and one grammar is that of the set
    pub one_assembled : (g h : Grammar) → IsAssembled s g → IsAssembled s h → g ≡ h
    one_assembled g h (none, (ms, a, e)) (none', (ns, b, f)) = e ∙ ap grammar_of (one_modules ms ns a b) ∙ sym f
