-- The walk over a set's list that finds its effective modules.
use Rattle.std.proofs.Common.{◌≡◌, ◌≢◌, ℕ, ◌<◌, ◌≤◌, true, ◌⊎◌, inl, inr, List, [], ◌∷◌, ◌++◌, Option, Some, None, refl, sym, ap, subst, ◌∙◌, arith, append_assoc}
use Rattle.std.specs.declared.cmp.Ordering.{Ordering}
use Rattle.std.specs.declared.cmp.Ordering.TheVariants.{Less, Equal, Greater}
use Rattle.std.specs.Ordering.{nat_cmp, ordering_then}
use Rattle.std.specs.List.Sorted.{IsStrictlySortedBy}
use Rattle.std.proofs.lemmas.Cmp.{tied_itself, nat_list_cmp_total, ranked}
use Rattle.std.proofs.lemmas.List.{append-nil}
use Rattle.std.specs.Option.{option_cmp}
use Rattle.rn_modset.specs.Contributions.{Member, member_cmp}
use Rattle.rn_text.specs.Texts.{text_cmp}
use Rattle.rn_modset.specs.Sets.{Rises, has}
use Rattle.rn_modset.specs.Modules.{Holds, IsHighest, IsEffective, IsConflict, IsFirstConflict, Module, module_cmp, NamesRise, AreEffective}
use Rattle.rn_modset.proofs.OrderedMembers.MemberOrder.{members_total, texts_same}
use Rattle.rn_modset.proofs.Unions.Membership.{In, in_left, in_right, in_append, in_from_contains, contains_from_in, sorted_push, below_in, above_in, in_from_has, has_from_in}

no_text_below_itself : (x : List ℕ) → text_cmp x x ≢ Less
no_text_below_itself x e = let h : Less ≡ Equal = sym e ∙ tied_itself nat_list_cmp_total x in cc

no_member_below_itself : (x : Member) → member_cmp x x ≢ Less
no_member_below_itself x e = let h : Less ≡ Equal = sym e ∙ tied_itself members_total x in cc

revisions_by : (a b : ℕ) (rest r : Ordering) → r ≡ nat_cmp a b → ordering_then r rest ≡ Less → a ≤ b
revisions_by a b rest Less e h = let k : a < b = ranked a b Less e in omega arith
revisions_by a b rest Equal e h = let k : a ≡ b = ranked a b Equal e in omega arith
revisions_by a b rest Greater e h = cc

names_by : (x y : Member) (rest r : Ordering) → r ≡ text_cmp x.name y.name → ordering_then r rest ≡ Less → (rest ≡ Less → x.revision ≤ y.revision)
    → (text_cmp x.name y.name ≡ Less) ⊎ ((x.name ≡ y.name) × (x.revision ≤ y.revision))
names_by x y rest Less e h k = inl (sym e)
names_by x y rest Equal e h k = inr (texts_same x.name y.name (sym e), k h)
names_by x y rest Greater e h k = cc

-- the lesser of two contributions has the lesser name, or the same name and no higher revision
pub below_cases : (x y : Member) → member_cmp x y ≡ Less → (text_cmp x.name y.name ≡ Less) ⊎ ((x.name ≡ y.name) × (x.revision ≤ y.revision))
unfolding member_cmp
below_cases x y h = names_by x y _ (text_cmp x.name y.name) refl h (λ k. revisions_by x.revision y.revision (option_cmp text_cmp x.text y.text) (nat_cmp x.revision y.revision) refl k)

-- what stands between two of one module and revision is of it too
pub between : (q b m : Member) → member_cmp q b ≡ Less → member_cmp b m ≡ Less → q.name ≡ m.name → q.revision ≡ m.revision → (b.name ≡ m.name) × (b.revision ≡ m.revision)
between q b m low high n r = elim (below_cases q b low) [
  | inl a ↦ elim (below_cases b m high) [
    | inl c ↦ absurd (no_text_below_itself m.name (subst (λ z. text_cmp z m.name ≡ Less) n (nat_list_cmp_total.trans q.name b.name m.name a c)))
    | inr c ↦ absurd (no_text_below_itself m.name (subst (λ z. text_cmp z m.name ≡ Less) n (subst (λ z. text_cmp q.name z ≡ Less) c.0 a)))
  ]
  | inr a ↦ elim (below_cases b m high) [
    | inl c ↦ absurd (no_text_below_itself m.name (subst (λ z. text_cmp z m.name ≡ Less) (sym a.0 ∙ n) c))
    | inr c ↦ (c.0, omega (arith, a.1, c.1, r))
  ]
]

-- what is above m is of another module
abbrev pub IsLast : Member → List Member → Type 0
IsLast m ys = (q : Member) → In q ys → text_cmp m.name q.name ≡ Less

-- the next one is of the module
abbrev pub IsNext : Member → List Member → Type 0
IsNext q [] = ⊥
IsNext q (y ∷ ys) = y.name ≡ q.name

pub last_in : (xs ys : List Member) (m : Member) → Rises (xs ++ m ∷ ys) → ¬ (IsNext m ys) → IsLast m ys
unfolding IsStrictlySortedBy
last_in xs [] m s n q h = absurd h
last_in xs (y ∷ ys) m s n q h =
    let first : text_cmp m.name y.name ≡ Less = elim (below_cases m y (above_in member_cmp xs (y ∷ ys) m y s (inl refl))) [ inl a ↦ a | inr b ↦ absurd (n (sym b.0)) ] in
    elim h [
      | inl e ↦ subst (λ (z : Member). text_cmp m.name z.name ≡ Less) e first
      | inr i ↦
          let up : Rises ((xs ++ m ∷ []) ++ y ∷ ys) = rw append_assoc s in
          elim (below_cases y q (above_in member_cmp (xs ++ m ∷ []) ys y q up i)) [
            | inl a ↦ nat_list_cmp_total.trans m.name y.name q.name first a
            | inr b ↦ subst (λ z. text_cmp m.name z ≡ Less) b.0 first
          ]
    ]

-- at the last of a module stands its highest revision
pub highest_at : (xs ys : List Member) (m : Member) → Rises (xs ++ m ∷ ys) → IsLast m ys → IsHighest (xs ++ m ∷ ys) m.name m.revision
highest_at xs ys m s l = record {
  text = m.text;
  held = has_from_in (xs ++ m ∷ ys) m (in_right m xs (m ∷ ys) (inl refl));
  highest = λ r t h.
      let q : Member = record { name = m.name; revision = r; text = t } in
      elim (in_append q xs (m ∷ ys) (in_from_has (xs ++ m ∷ ys) q h)) [
        | inl a ↦ elim (below_cases q m (below_in member_cmp xs ys m q s a)) [ inl b ↦ absurd (no_text_below_itself m.name b) | inr b ↦ b.1 ]
        | inr a ↦ elim a [ inl e ↦ let k : m.revision ≡ r = ap (λ (z : Member). z.revision) e in omega arith | inr b ↦ absurd (no_text_below_itself m.name (l q b)) ]
      ];
}

-- nothing else stands at the highest revision of m's module
pub record IsTop (s : List Member) (m : Member) : Type 0 where
  pub highest : IsHighest s m.name m.revision
  pub only : (t : Option (List ℕ)) → Holds s m.name m.revision t → t ≡ m.text

pub top_at : (xs ys : List Member) (m : Member) → Rises (xs ++ m ∷ ys) → IsLast m ys → ((q : Member) → In q xs → q.name ≡ m.name → q.revision ≢ m.revision) → IsTop (xs ++ m ∷ ys) m
top_at xs ys m s l n = record {
  highest = highest_at xs ys m s l;
  only = λ t h.
      let q : Member = record { name = m.name; revision = m.revision; text = t } in
      elim (in_append q xs (m ∷ ys) (in_from_has (xs ++ m ∷ ys) q h)) [
        | inl a ↦ absurd (n q a refl refl)
        | inr a ↦ elim a [ inl e ↦ sym (ap (λ (z : Member). z.text) e) | inr b ↦ absurd (no_text_below_itself m.name (l q b)) ]
      ];
}

one_highest : (s : List Member) (m : Member) (r : ℕ) → IsTop s m → IsHighest s m.name r → r ≡ m.revision
one_highest s m r t h = omega (arith, t.highest.highest r h.text h.held, h.highest m.revision t.highest.text t.highest.held)

pub top_text : (s : List Member) (m : Member) (text : List ℕ) → IsTop s m → IsEffective s m.name text → m.text ≡ Some text
top_text s m text t e = sym (t.only (Some text) (subst (λ r. Holds s m.name r (Some text)) (one_highest s m e.0 t e.1) ((e.2 (Some text)).1 refl)))

pub top_agrees : (s : List Member) (m : Member) (r : ℕ) → IsTop s m → ¬ (IsConflict s m.name r)
top_agrees s m r t c =
    let same = one_highest s m r t c.0 in
    let one = t.only c.1.0 (subst (λ k. Holds s m.name k c.1.0) same c.1.3) in
    let other = t.only c.1.1 (subst (λ k. Holds s m.name k c.1.1) same c.1.4) in
    c.1.2 (one ∙ sym other)

pub top_effective : (s : List Member) (m : Member) (text : List ℕ) → IsTop s m → m.text ≡ Some text → IsEffective s m.name text
top_effective s m text t e = (
  m.revision,
  t.highest,
  λ u. (
    λ h. t.only u h ∙ e,
    λ same.
        let k : has s m ≡ true = subst (λ v. Holds s m.name m.revision v) (t.only t.highest.text t.highest.held) (subst (λ r. Holds s m.name r t.highest.text) refl t.highest.held) in
        subst (λ v. Holds s m.name m.revision v) (e ∙ sym same) k,
  ),
)

-- all of the module is told by these
abbrev pub HasItsText : List Member → List Module → List ℕ → Type 0
HasItsText s modules name = ((text : List ℕ) → IsEffective s name text → In (name, text) modules) × ((r : ℕ) → ¬ (IsConflict s name r))

-- the modules of what has been passed, but for the one that goes on
pub record IsWalk (s xs ys : List Member) (modules : List Module) : Type 0 where
  pub whole : s ≡ xs ++ ys
  pub order : NamesRise modules
  pub sound : (m : Module) → In m modules → IsEffective s m.0 m.1
  pub below : (m : Module) (y : Member) → In m modules → In y ys → text_cmp m.0 y.name ≡ Less
  pub told : (q : Member) → In q xs → HasItsText s modules q.name ⊎ IsNext q ys

pub walk_start : (s : List Member) → IsWalk s [] s []
unfolding IsStrictlySortedBy
walk_start s = record { whole = refl; order = tt; sound = λ m h. absurd h; below = λ m y h. absurd h; told = λ q h. absurd h }

next_by : (s xs ys : List Member) (modules : List Module) (m : Member) → IsWalk s xs (m ∷ ys) modules → (q : Member) → In q (xs ++ m ∷ []) → HasItsText s modules q.name ⊎ (m.name ≡ q.name)
next_by s xs ys modules m w q h = elim (in_append q xs (m ∷ []) h) [
  | inl a ↦ w.told q a
  | inr b ↦ elim b [ inl e ↦ inr (ap (λ (z : Member). z.name) e) | inr f ↦ absurd f ]
]

pub walk_on : (s xs ys : List Member) (modules : List Module) (m : Member) → IsWalk s xs (m ∷ ys) modules → IsNext m ys → IsWalk s (xs ++ m ∷ []) ys modules
walk_on s xs [] modules m w n = absurd n
walk_on s xs (y ∷ ys) modules m w n = record {
  whole = w.whole ∙ sym (append_assoc xs (m ∷ []) (y ∷ ys));
  order = w.order;
  sound = w.sound;
  below = λ p z i j. w.below p z i (inr j);
  told = λ q h. elim (next_by s xs (y ∷ ys) modules m w q h) [ inl a ↦ inl a | inr e ↦ inr (n ∙ e) ];
}

text_more : (s : List Member) (modules : List Module) (name : List ℕ) (p : Module) → HasItsText s modules name → HasItsText s (modules ++ p ∷ []) name
text_more s modules name p t = (λ text e. in_left (name, text) modules (p ∷ []) (t.0 text e), t.1)

pub walk_text : (s xs ys : List Member) (modules : List Module) (m : Member) (text : List ℕ) → IsWalk s xs (m ∷ ys) modules → IsTop s m → IsLast m ys → m.text ≡ Some text
    → IsWalk s (xs ++ m ∷ []) ys (modules ++ (m.name, text) ∷ [])
walk_text s xs ys modules m text w t l e =
    let p : Module = (m.name, text) in
    record {
      whole = w.whole ∙ sym (append_assoc xs (m ∷ []) ys);
      order = sorted_push module_cmp modules p w.order (λ q i. w.below q m i (inl refl));
      sound = λ q i. elim (in_append q modules (p ∷ []) i) [
        | inl a ↦ w.sound q a
        | inr b ↦ elim b [ inl same ↦ subst (λ (z : Module). IsEffective s z.0 z.1) same (top_effective s m text t e) | inr f ↦ absurd f ]
      ];
      below = λ q z i j. elim (in_append q modules (p ∷ []) i) [
        | inl a ↦ w.below q z a (inr j)
        | inr b ↦ elim b [ inl same ↦ subst (λ (y : Module). text_cmp y.0 z.name ≡ Less) same (l z j) | inr f ↦ absurd f ]
      ];
      told = λ q h. inl (elim (next_by s xs ys modules m w q h) [
        | inl a ↦ text_more s modules q.name p a
        | inr same ↦ subst (HasItsText s (modules ++ p ∷ [])) same (λ u f. in_right (m.name, u) modules (p ∷ []) (inl (ap (λ v. (m.name, v)) (some_same text u (sym e ∙ top_text s m u t f)))), λ r. top_agrees s m r t)
      ]);
    }
  where
    some_same : (a b : List ℕ) → Some a ≡ Some b → a ≡ b
    some_same a b h = cc

pub walk_withdrawal : (s xs ys : List Member) (modules : List Module) (m : Member) → IsWalk s xs (m ∷ ys) modules → IsTop s m → m.text ≡ None → IsWalk s (xs ++ m ∷ []) ys modules
walk_withdrawal s xs ys modules m w t e = record {
  whole = w.whole ∙ sym (append_assoc xs (m ∷ []) ys);
  order = w.order;
  sound = w.sound;
  below = λ p z i j. w.below p z i (inr j);
  told = λ q h. inl (elim (next_by s xs ys modules m w q h) [
    | inl a ↦ a
    | inr same ↦ subst (HasItsText s modules) same (λ u f. absurd (none_some u (sym e ∙ top_text s m u t f)), λ r. top_agrees s m r t)
  ]);
}
  where
    none_some : (u : List ℕ) → None ≢ Some u
    none_some u h = cc

pub walk_conflict : (s xs ys : List Member) (modules : List Module) (m b : Member) → Rises s → IsWalk s xs (m ∷ ys) modules → IsLast m ys → In b xs → b.name ≡ m.name → b.revision ≡ m.revision
    → IsFirstConflict s m.name m.revision
walk_conflict s xs ys modules m b rise w l i n r =
    let up : Rises (xs ++ m ∷ ys) = subst Rises w.whole rise in
    let highest : IsHighest s m.name m.revision = subst (λ z. IsHighest z m.name m.revision) (sym w.whole) (highest_at xs ys m up l) in
    let held : has s m ≡ true = subst (λ z. has z m ≡ true) (sym w.whole) (has_from_in (xs ++ m ∷ ys) m (in_right m xs (m ∷ ys) (inl refl))) in
    let other : has s b ≡ true = subst (λ z. has z b ≡ true) (sym w.whole) (has_from_in (xs ++ m ∷ ys) b (in_left b xs (m ∷ ys) i)) in
    let alike : has s (record { name = m.name; revision = m.revision; text = b.text }) ≡ true = subst (λ (x : List ℕ). has s (record { name = x; revision = m.revision; text = b.text }) ≡ true) n (subst (λ (k : ℕ). has s (record { name = b.name; revision = k; text = b.text }) ≡ true) r other) in (
      (highest, (b.text, m.text, (λ same. no_member_below_itself m (subst (λ (z : Member). member_cmp z m ≡ Less) (one n r same) (below_in member_cmp xs ys m b up i))), alike, held)),
      λ k q c less.
          let x : Member = record { name = k; revision = q; text = c.0.text } in
          elim (in_append x xs (m ∷ ys) (subst (In x) w.whole (in_from_has s x c.0.held))) [
            | inl a ↦ elim (w.told x a) [ inl t ↦ t.1 q c | inr e ↦ no_text_below_itself m.name (subst (λ z. text_cmp z m.name ≡ Less) (sym e) less) ]
            | inr a ↦ elim a [
              | inl e ↦ no_text_below_itself m.name (subst (λ z. text_cmp z m.name ≡ Less) (sym (ap (λ (z : Member). z.name) e)) less)
              | inr d ↦ no_text_below_itself m.name (nat_list_cmp_total.trans m.name k m.name (l x d) less)
            ]
          ],
    )
  where
    one : b.name ≡ m.name → b.revision ≡ m.revision → b.text ≡ m.text → b ≡ m
    one e f g = λ j. record { name = e j; revision = f j; text = g j }

pub walk_end : (s xs : List Member) (modules : List Module) → IsWalk s xs [] modules → AreEffective s modules
walk_end s xs modules w =
    let all : xs ≡ s = sym (w.whole ∙ append-nil xs) in
    let told : (q : Member) → has s q ≡ true → HasItsText s modules q.name = λ q h. elim (w.told q (subst (In q) (sym all) (in_from_has s q h))) [ inl a ↦ a | inr f ↦ absurd f ] in
    record {
      in_order = w.order;
      are = λ name text. (
        λ c. w.sound (name, text) (in_from_contains modules (name, text) c),
        λ e. contains_from_in modules (name, text) ((told (record { name = name; revision = e.0; text = e.1.text }) e.1.held).0 text e),
      );
      agreed = λ name r c. (told (record { name = name; revision = r; text = c.0.text }) c.0.held).1 r c;
    }
