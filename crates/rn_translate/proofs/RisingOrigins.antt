-- Pieces that rise, and one more.
use Rattle.std.proofs.Common.{◌≡◌, ℕ, zero, suc, ◌+◌, ◌<◌, ◌≤◌, true, false, leb, cond, List, [], ◌∷◌, ◌++◌, length, get_or, refl, ap, ◌∙◌, subst, arith}
use Rattle.std.specs.Prelude.{All}
use Rattle.std.specs.List.Sorted.{IsNonDecreasingBy, IsPartitionPoint, IsPartitionedBy}
use Rattle.std.proofs.lemmas.List.Sorted.{IsPartitionedBy-leb}
use Rattle.std.proofs.lemmas.List.Elements.{All-cons, All-nil}
use Rattle.rn_translate.specs.Origins.{AreInOrder, AreOrigins, AreRising, BeginsWithText, origin_from, origin_of}
use Rattle.rn_translate.specs.declared.draft.Origin.{Origin}

-- one more piece after those that rise
pub rising_pushed : (next source from : ℕ) (ps : List Origin) (p : Origin) → AreRising next source from ps → next ≤ p.from → p.at ≤ source
    → AreRising (p.from + 1) source from (ps ++ p ∷ [])
rising_pushed next source from [] p h behind within = (omega arith, (within, omega arith))
rising_pushed next source from (q ∷ qs) p (begins, (inside, rest)) behind within =
    (begins, (inside, rising_pushed next source (q.from + 1) qs p rest behind within))

-- pieces before a text that goes on
pub begins_on : (next length' next' length'' : ℕ) (ps : List Origin) → 1 ≤ length ps → BeginsWithText next length' ps → BeginsWithText next' length'' ps
begins_on next l next' l' [] some h = absurd (omega arith)
begins_on next l next' l' (p ∷ ps) some h = h

-- the first piece of a text, or a further one
pub begins_pushed : (next length' next' : ℕ) (ps : List Origin) (p : Origin) → p.from ≤ length' → BeginsWithText next length' ps
    → BeginsWithText next' length' (ps ++ p ∷ [])
begins_pushed next l next' [] p within h = omega arith
begins_pushed next l next' (q ∷ qs) p within h = h

-- the pieces begin before the next one may
pub before_next : (next source from : ℕ) (ps : List Origin) → AreRising next source from ps → from ≤ next
before_next next source from [] h = h
before_next next source from (p ∷ ps) (begins, (inside, rest)) = let behind : p.from + 1 ≤ next = before_next next source (p.from + 1) ps rest in omega arith

-- pieces that rise, where the next one may begin later
rising_weaker : (next next' source from : ℕ) (ps : List Origin) → next ≤ next' → AreRising next source from ps → AreRising next' source from ps
rising_weaker next next' source from [] later h = omega arith
rising_weaker next next' source from (p ∷ ps) later (begins, (inside, rest)) = (begins, (inside, rising_weaker next next' source (p.from + 1) ps later rest))

begins_anyhow : (next length' : ℕ) (ps : List Origin) → BeginsWithText next length' ps → BeginsWithText 0 length' ps
begins_anyhow next l [] h = omega arith
begins_anyhow next l (p ∷ ps) h = h

-- the pieces of a draft are those of its text
pub pieces_of_draft : (next length' source : ℕ) (ps : List Origin) → next ≤ length' + 1 → AreRising next source 0 ps → BeginsWithText next length' ps
    → AreOrigins length' source ps
pieces_of_draft next l source ps near rising begins = (rising_weaker next (l + 1) source 0 ps near rising, begins_anyhow next l ps begins)

-- each piece begins before the next one may
pub all_before : (next source from : ℕ) (ps : List Origin) → AreRising next source from ps → All (λ p. p.from + 1 ≤ next) ps
all_before next source from [] h = All-nil (λ (p : Origin). p.from + 1 ≤ next)
all_before next source from (p ∷ ps) (begins, (inside, rest)) =
    All-cons (λ (q : Origin). q.from + 1 ≤ next) p ps (before_next next source (p.from + 1) ps rest) (all_before next source (p.from + 1) ps rest)

in_order_from : (next source from least : ℕ) (ps : List Origin) → least ≤ from → AreRising next source from ps → AreInOrder least ps
in_order_from next source from least [] l h = omega arith
in_order_from next source from least (p ∷ ps) l (begins, (inside, rest)) =
    (omega (arith, l, begins), in_order_from next source (p.from + 1) p.from ps (omega arith) rest)

-- the pieces of a draft are in order
pub in_order_of_draft : (next source : ℕ) (ps : List Origin) → AreRising next source 0 ps → AreInOrder 0 ps
in_order_of_draft next source ps h = in_order_from next source 0 0 ps (omega arith) h

behind_all : (least j : ℕ) (d : Origin) (ps : List Origin) → AreInOrder least ps → j < length ps → least ≤ (get_or ps j d).from
behind_all least j d [] h l = absurd (omega (arith, l))
behind_all least zero d (p ∷ ps) h l = h.0
behind_all least (suc j) d (p ∷ ps) h l = omega (arith, h.0, behind_all p.from j d ps h.1 (omega (arith, l)))

nondecreasing : (least : ℕ) (ps : List Origin) → AreInOrder least ps → IsNonDecreasingBy (λ (p : Origin). p.from) ps
nondecreasing least [] h i j d le lt = absurd (omega (arith, lt))
nondecreasing least (p ∷ ps) h zero zero d le lt = omega arith
nondecreasing least (p ∷ ps) h zero (suc j) d le lt = behind_all p.from j d ps h.1 (omega (arith, lt))
nondecreasing least (p ∷ ps) h (suc i) zero d le lt = absurd (omega (arith, le))
nondecreasing least (p ∷ ps) h (suc i) (suc j) d le lt = nondecreasing p.from ps h.1 i j d (omega (arith, le)) (omega (arith, lt))

-- those that begin at a byte or before it come first
pub parted : (ps : List Origin) (at : ℕ) → AreInOrder 0 ps → IsPartitionedBy (λ (p : Origin). leb p.from at) ps
parted ps at h = IsPartitionedBy-leb (λ (p : Origin). p.from) ps at (nondecreasing 0 ps h)

abbrev pub Parts : List Origin → ℕ → ℕ → Type 0
Parts ps at i = IsPartitionPoint (λ (p : Origin). leb p.from at ≡ true) (λ (p : Origin). leb p.from at ≡ false) ps i

none_begun : (found at : ℕ) (ps : List Origin) → Parts ps at 0 → origin_from found at ps ≡ found
none_begun found at [] h = refl
none_begun found at (p ∷ ps) h =
    ap (λ b. origin_from (cond b p.at found) at ps) (h.1 0 p (omega arith) (omega arith))
    ∙ none_begun found at ps ((λ k d l m. absurd (omega (arith, m))), (λ k d l m. h.1 (suc k) d (omega arith) (omega (arith, m))))

some_begun : (found at k : ℕ) (d : Origin) (ps : List Origin) → suc k ≤ length ps → Parts ps at (suc k) → origin_from found at ps ≡ (get_or ps k d).at
some_begun found at k d [] l h = absurd (omega (arith, l))
some_begun found at zero d (p ∷ ps) l h =
    ap (λ b. origin_from (cond b p.at found) at ps) (h.0 0 p (omega arith) (omega arith))
    ∙ none_begun p.at at ps ((λ k d l m. absurd (omega (arith, m))), (λ k d l m. h.1 (suc k) d (omega (arith, l)) (omega (arith, m))))
some_begun found at (suc k) d (p ∷ ps) l h =
    some_begun (cond (leb p.from at) p.at found) at k d ps (omega (arith, l))
    ((λ j e m n. h.0 (suc j) e (omega arith) (omega (arith, n))), (λ j e m n. h.1 (suc j) e (omega (arith, m)) (omega (arith, n))))

-- where none begins at a byte or before it
pub origin_of_none : (at : ℕ) (ps : List Origin) → Parts ps at 0 → origin_of ps at ≡ 0
origin_of_none at ps h = none_begun 0 at ps h

-- where this many begin at a byte or before it, the last of these tells the origin
pub origin_of_last : (at i k : ℕ) (d : Origin) (ps : List Origin) → i ≡ suc k → i ≤ length ps → Parts ps at i → origin_of ps at ≡ (get_or ps k d).at
origin_of_last at i k d ps is l h = some_begun 0 at k d ps (omega (arith, l, is)) (subst (λ j. Parts ps at j) is h)
