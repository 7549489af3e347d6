-- What a root is inside a step, and asked for directly: a result for a finite value that isn't below zero, else a refusal. Assumes nothing.
use Rattle.std.proofs.Common.{◌≡◌, true, false, T, refl, true≢false}
use lib.Ieee.{Float, nan, inf, fin, binary64, lt, of_bits, fits}
use lib.Ieee.Scale.{finite}
use Rattle.std.specs.Prelude.{Ok, Err}
use Rattle.root.specs.Sqrt.{sqrt_of, root_of, root_asked}
use Rattle.root.proofs.digits.Cases.{below_nan}
use Rattle.root.proofs.digits.Correct.{plus_zero, sqrt-finite}
use Rattle.errors.specs.declared.Refusal.TheVariants.{BadNumber, NotFinite}

-- In a step, a finite value that isn't below zero has its root for a result.
pub root-result : (x : Float) → T (fits binary64 x) → finite x ≡ true → lt x plus_zero ≡ false → root_of x ≡ Ok (sqrt_of x)
root-result x h f b = rw (sqrt-finite x h f b)

-- In a step, a value below zero is refused with 12.
pub root_below : (x : Float) → lt x plus_zero ≡ true → root_of x ≡ Err NotFinite
unfolding of_bits
root_below x b = rw (← (below_nan x b))

-- In a step, what isn't finite is refused with 12.
pub root_wild : (x : Float) → finite x ≡ false → root_of x ≡ Err NotFinite
unfolding sqrt_of
root_wild nan f = refl
root_wild (inf false) f = refl
root_wild (inf true) f = refl
root_wild (fin s m e) f = absurd (true≢false f)

-- Asked for directly, a finite value that isn't below zero has its root for a result.
pub asked-result : (x : Float) → T (fits binary64 x) → finite x ≡ true → lt x plus_zero ≡ false → root_asked x ≡ Ok (sqrt_of x)
asked-result x h f b = rw f (root-result x h f b)

-- Asked for directly, a finite value below zero is refused with 12.
pub asked_below : (x : Float) → finite x ≡ true → lt x plus_zero ≡ true → root_asked x ≡ Err NotFinite
asked_below x f b = rw f (root_below x b)

-- Asked for directly, what isn't finite is refused with 2.
pub asked_wild : (x : Float) → finite x ≡ false → root_asked x ≡ Err BadNumber
asked_wild x f = rw f
