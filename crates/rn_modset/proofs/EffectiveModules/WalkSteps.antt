-- The walk's steps at a place of a slice of contributions.
use Rattle.std.proofs.Common.{◌≡◌, ◌≢◌, ℕ, zero, suc, ◌+◌, ◌-◌, ◌<◌, ◌≤◌, inl, inr, List, [], ◌∷◌, ◌++◌, length, get_or, take, drop, Some, None, refl, sym, ap, subst, ◌∙◌, arith, length-drop}
use Rattle.std.specs.declared.cmp.Ordering.TheVariants.{Less}
use Rattle.std.proofs.lemmas.List.{drop_more, drop_all, get_or_default}
use Rattle.std.specs.String.{string_bytes}
use Rattle.rn_modset.specs.declared.contribution.Contribution.{Contribution}
use Rattle.rn_modset.specs.Contributions.{Member, member, members_of, member_cmp}
use Rattle.rn_modset.specs.Sets.{Rises}
use Rattle.rn_modset.specs.Modules.{Module, AreEffective, IsFirstConflict}
use Rattle.rn_modset.specs.inside.Neighbours.{IsFollowed, IsContradicted}
use Rattle.rn_modset.proofs.EffectiveModules.SlicePlaces.{IsHeldAt, slice_front_more, slice_back_more, split_at}
use Rattle.rn_modset.proofs.OrderedMembers.SearchedPlaces.{rise_at}
use Rattle.rn_modset.proofs.Unions.Membership.{In, in_append, below_in}
use Rattle.rn_modset.proofs.EffectiveModules.SetWalk.{IsWalk, IsNext, IsLast, IsTop, last_in, top_at, between, walk_on, walk_text, walk_withdrawal, walk_conflict, walk_end}

walk_at : (s : List Member) (cs : List Contribution) (at : ℕ) (c : Contribution) (modules : List Module) → IsHeldAt cs at c → IsWalk s (members_of (take at cs)) (members_of (drop at cs)) modules
    → IsWalk s (members_of (take at cs)) (member c ∷ members_of (drop (at + 1) cs)) modules
walk_at s cs at c modules h w = subst (λ ys. IsWalk s (members_of (take at cs)) ys modules) (slice_back_more cs at c h) w

step_from : (s : List Member) (cs : List Contribution) (at : ℕ) (c : Contribution) (modules : List Module) → IsHeldAt cs at c → IsWalk s (members_of (take at cs) ++ member c ∷ []) (members_of (drop (at + 1) cs)) modules
    → IsWalk s (members_of (take (at + 1) cs)) (members_of (drop (at + 1) cs)) modules
step_from s cs at c modules h w = subst (λ xs. IsWalk s xs (members_of (drop (at + 1) cs)) modules) (sym (slice_front_more cs at c h)) w

next_at : (cs : List Contribution) (at : ℕ) (c : Contribution) → IsHeldAt cs at c → IsFollowed cs at → IsNext (member c) (members_of (drop (at + 1) cs))
next_at cs at c h f = subst (λ (xs : List Contribution). IsNext (member c) (members_of xs)) (sym (drop_more cs (at + 1) c f.0)) (f.1 c ∙ ap (λ (x : Contribution). string_bytes x.name) (sym h.is))

head_same : (a b : Contribution) (xs ys : List Contribution) → a ∷ xs ≡ b ∷ ys → a ≡ b
head_same a b xs ys e = cc

followed_by : (cs ds : List Contribution) (at : ℕ) (c : Contribution) → ds ≡ drop (at + 1) cs → IsHeldAt cs at c → IsNext (member c) (members_of ds) → IsFollowed cs at
followed_by cs [] at c e h n = absurd n
followed_by cs (x ∷ ds) at c e h n =
    let lt : at + 1 < length cs = omega (arith, ap length e, length-drop {A = Contribution}) in
    let first : x ≡ get_or cs (at + 1) x = head_same x (get_or cs (at + 1) x) ds (drop (at + 1 + 1) cs) (e ∙ drop_more cs (at + 1) x lt) in
    (lt, λ d. ap (λ (z : Contribution). string_bytes z.name) (get_or_default cs (at + 1) d x lt ∙ sym first) ∙ n ∙ ap (λ (z : Contribution). string_bytes z.name) (h.is ∙ get_or_default cs at c d h.within))

last_at : (cs : List Contribution) (at : ℕ) (c : Contribution) → Rises (members_of cs) → IsHeldAt cs at c → ¬ (IsFollowed cs at) → IsLast (member c) (members_of (drop (at + 1) cs))
last_at cs at c s h n =
    last_in (members_of (take at cs)) (members_of (drop (at + 1) cs)) (member c) (subst Rises (split_at cs at c h) s) (λ m. n (followed_by cs (drop (at + 1) cs) at c refl h m))

in_take : (cs : List Contribution) (k at : ℕ) (d : Contribution) → k < at → at ≤ length cs → In (member (get_or cs k d)) (members_of (take at cs))
in_take [] k at d lt le = absurd (omega arith)
in_take (c ∷ cs) k zero d lt le = absurd (omega arith)
in_take (c ∷ cs) zero (suc at) d lt le = inl refl
in_take (c ∷ cs) (suc k) (suc at) d lt le = inr (in_take cs k at d (omega arith) (omega arith))

contradicted_by : (cs : List Contribution) (at k : ℕ) (b c : Contribution) → at ≡ k + 1 → IsHeldAt cs k b → IsHeldAt cs at c → (member b).name ≡ (member c).name → (member b).revision ≡ (member c).revision → IsContradicted cs at
contradicted_by cs at k b c e g h n r =
    let before : (d : Contribution) → get_or cs (at - 1) d ≡ b = λ d. ap (λ j. get_or cs j d) (omega arith) ∙ get_or_default cs k d b g.within ∙ sym g.is in
    let here : (d : Contribution) → c ≡ get_or cs at d = λ d. h.is ∙ get_or_default cs at c d h.within in (
      omega arith,
      (λ d. ap (λ (z : Contribution). string_bytes z.name) (before d) ∙ n ∙ ap (λ (z : Contribution). string_bytes z.name) (here d)),
      (λ d. ap (λ (z : Contribution). z.revision) (before d) ∙ r ∙ ap (λ (z : Contribution). z.revision) (here d)),
    )

alone_by : (cs : List Contribution) (at k : ℕ) (c : Contribution) → at ≡ k + 1 → Rises (members_of cs) → IsHeldAt cs at c → ¬ (IsContradicted cs at)
    → (q : Member) → In q (members_of (take at cs)) → q.name ≡ (member c).name → q.revision ≢ (member c).revision
alone_by cs at k c e s h n q i names revisions =
    let b = get_or cs k c in
    let within : k < length cs = omega (arith, h.within) in
    let g : IsHeldAt cs k b = record { within = within; is = get_or_default cs k c b within } in
    let there : In q (members_of (take k cs) ++ member b ∷ []) = subst (In q) (slice_front_more cs k b g) (subst (λ (j : ℕ). In q (members_of (take j cs))) e i) in
    let less : member_cmp (member b) (member c) ≡ Less = subst (λ (x : Contribution). member_cmp (member b) (member x) ≡ Less) (sym h.is) (rise_at cs k at c s (omega arith) h.within) in
    elim (in_append q (members_of (take k cs)) (member b ∷ []) there) [
      | inl a ↦
          let low : member_cmp q (member b) ≡ Less = below_in member_cmp (members_of (take k cs)) (members_of (drop (k + 1) cs)) (member b) q (subst Rises (split_at cs k b g) s) a in
          let same = between q (member b) (member c) low less names revisions in
          n (contradicted_by cs at k b c e g h same.0 same.1)
      | inr a ↦ elim a [
        | inl one ↦ n (contradicted_by cs at k b c e g h (ap (λ (z : Member). z.name) one ∙ names) (ap (λ (z : Member). z.revision) one ∙ revisions))
        | inr none ↦ none
      ]
    ]

alone_at : (cs : List Contribution) (at : ℕ) (c : Contribution) → Rises (members_of cs) → IsHeldAt cs at c → ¬ (IsContradicted cs at)
    → (q : Member) → In q (members_of (take at cs)) → q.name ≡ (member c).name → q.revision ≢ (member c).revision
alone_at cs zero c s h n = λ q i. absurd i
alone_at cs (suc k) c s h n = alone_by cs (suc k) k c (omega arith) s h n

top_of : (cs : List Contribution) (at : ℕ) (c : Contribution) → Rises (members_of cs) → IsHeldAt cs at c → ¬ (IsFollowed cs at) → ¬ (IsContradicted cs at) → IsTop (members_of cs) (member c)
top_of cs at c s h last alone =
    subst (λ z. IsTop z (member c)) (sym (split_at cs at c h))
    (top_at (members_of (take at cs)) (members_of (drop (at + 1) cs)) (member c) (subst Rises (split_at cs at c h) s) (last_at cs at c s h last) (alone_at cs at c s h alone))

-- a module goes on behind the place
pub step_on : (cs : List Contribution) (at : ℕ) (c : Contribution) (modules : List Module) → IsHeldAt cs at c → IsWalk (members_of cs) (members_of (take at cs)) (members_of (drop at cs)) modules → IsFollowed cs at
    → IsWalk (members_of cs) (members_of (take (at + 1) cs)) (members_of (drop (at + 1) cs)) modules
step_on cs at c modules h w f =
    step_from (members_of cs) cs at c modules h (walk_on (members_of cs) (members_of (take at cs)) (members_of (drop (at + 1) cs)) modules (member c) (walk_at (members_of cs) cs at c modules h w) (next_at cs at c h f))

-- the last of a module, which has a text
pub step_text : (cs : List Contribution) (at : ℕ) (c : Contribution) (modules : List Module) (text : List ℕ) → Rises (members_of cs) → IsHeldAt cs at c
    → IsWalk (members_of cs) (members_of (take at cs)) (members_of (drop at cs)) modules → ¬ (IsFollowed cs at) → ¬ (IsContradicted cs at) → (member c).text ≡ Some text
    → IsWalk (members_of cs) (members_of (take (at + 1) cs)) (members_of (drop (at + 1) cs)) (modules ++ (string_bytes c.name, text) ∷ [])
step_text cs at c modules text s h w last alone e =
    step_from (members_of cs) cs at c _ h (walk_text (members_of cs) (members_of (take at cs)) (members_of (drop (at + 1) cs)) modules (member c) text
    (walk_at (members_of cs) cs at c modules h w) (top_of cs at c s h last alone) (last_at cs at c s h last) e)

-- the last of a module, which is a withdrawal
pub step_withdrawal : (cs : List Contribution) (at : ℕ) (c : Contribution) (modules : List Module) → Rises (members_of cs) → IsHeldAt cs at c
    → IsWalk (members_of cs) (members_of (take at cs)) (members_of (drop at cs)) modules → ¬ (IsFollowed cs at) → ¬ (IsContradicted cs at) → (member c).text ≡ None
    → IsWalk (members_of cs) (members_of (take (at + 1) cs)) (members_of (drop (at + 1) cs)) modules
step_withdrawal cs at c modules s h w last alone e =
    step_from (members_of cs) cs at c modules h (walk_withdrawal (members_of cs) (members_of (take at cs)) (members_of (drop (at + 1) cs)) modules (member c)
    (walk_at (members_of cs) cs at c modules h w) (top_of cs at c s h last alone) e)

-- the last of a module, which another of its revision stands before
pub step_conflict : (cs : List Contribution) (at : ℕ) (c : Contribution) (modules : List Module) → Rises (members_of cs) → IsHeldAt cs at c
    → IsWalk (members_of cs) (members_of (take at cs)) (members_of (drop at cs)) modules → ¬ (IsFollowed cs at) → IsContradicted cs at
    → IsFirstConflict (members_of cs) (string_bytes c.name) c.revision
step_conflict cs at c modules s h w last f =
    walk_conflict (members_of cs) (members_of (take at cs)) (members_of (drop (at + 1) cs)) modules (member c) (member (get_or cs (at - 1) c)) s
    (walk_at (members_of cs) cs at c modules h w) (last_at cs at c s h last) (in_take cs (at - 1) at c (omega (arith, f.0)) (omega (arith, h.within)))
    (f.1 c ∙ ap (λ (z : Contribution). string_bytes z.name) (sym h.is)) (f.2 c ∙ ap (λ (z : Contribution). z.revision) (sym h.is))

-- the end of the list
pub walk_done : (cs : List Contribution) (at : ℕ) (modules : List Module) → IsWalk (members_of cs) (members_of (take at cs)) (members_of (drop at cs)) modules → length cs ≤ at → AreEffective (members_of cs) modules
walk_done cs at modules w le = walk_end (members_of cs) (members_of (take at cs)) modules (subst (λ (ys : List Contribution). IsWalk (members_of cs) (members_of (take at cs)) (members_of ys) modules) (drop_all at cs le) w)
