-- What truth values say.
use Rattle.std.proofs.Common.{◌≡◌, Bool, true, false, not, ◌&&◌, refl}
use mathlib.Core.Bool.{beq}

pub differs : {b : Bool} → b ≡ false → ¬ (b ≡ true)
differs e f = cc

pub first_of_both : (a b : Bool) → (a && b) ≡ true → a ≡ true
first_of_both true b e = refl
first_of_both false b e = cc

pub second_of_both : (a b : Bool) → (a && b) ≡ true → b ≡ true
second_of_both true b e = e
second_of_both false b e = cc

pub not_both : (b : Bool) → not b ≡ true → ¬ (b ≡ true)
not_both true e f = cc
not_both false e f = cc

pub same_truth : (a b : Bool) → beq a b ≡ true → a ≡ b
same_truth true true e = refl
same_truth true false e = cc
same_truth false true e = cc
same_truth false false e = refl

pub truth_itself : (a : Bool) → beq a a ≡ true
truth_itself true = refl
truth_itself false = refl
