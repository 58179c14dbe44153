-- What the answers of comparisons rule out.
use Rattle.std.proofs.Common.{◌≡◌, false, true, refl}
use Rattle.std.specs.declared.cmp.Ordering.{Ordering}
use Rattle.std.specs.declared.cmp.Ordering.TheVariants.{Less, Equal, Greater}
use Rattle.std.specs.Ordering.{is_eq, is_lt}

pub tied : (r : Ordering) → is_eq r ≡ true → r ≡ Equal
tied Less e = cc
tied Equal e = refl
tied Greater e = cc

pub less_not_equal : (r : Ordering) → r ≡ Less → is_eq r ≡ false
less_not_equal Less e = refl
less_not_equal Equal e = cc
less_not_equal Greater e = cc

pub greater_not_equal : (r : Ordering) → r ≡ Greater → is_eq r ≡ false
greater_not_equal Less e = cc
greater_not_equal Equal e = cc
greater_not_equal Greater e = refl

pub greater_not_less : (r : Ordering) → r ≡ Greater → is_lt r ≡ false
greater_not_less Less e = cc
greater_not_less Equal e = cc
greater_not_less Greater e = refl
