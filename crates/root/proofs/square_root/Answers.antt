-- `square_root`: the estimate counts only where it passed the exact test. Assumes nothing.
use Rattle.std.proofs.Common.{◌+◌, ◌-◌, ◌/◌, ◌%◌, ◌^◌, ◌<◌, T, sym, subst, ◌∙◌, arith}
use lib.Bits.{mask_lt}
use lib.Ieee.{Float, binary64, fits, to_bits}
use lib.Ieee.Bits.{to_bits-lt}
use Rattle.root.proofs.digits.Cases.{root-nan}
use Rattle.root.proofs.digits.Fields.{normal-plus, square-high}
use Rattle.root.proofs.digits.Scaling.{rescaled}
use Rattle.root.proofs.digits.Rounded.{rounded}
use Rattle.root.proofs.square_root.Goals as goal

pub returns-then-is_nan : goal.returns-then-is_nan
returns-then-is_nan c = root-nan c.args.x (sym c.is_nan.ensures.value ∙ c.if-is_nan.true)

-- the test of the field, over a pattern of 64 digits
normal_field : (x : Float) → T (fits binary64 x) → (to_bits binary64 x / 2 ^ 52 + (2 ^ 64 - 1)) % 2 ^ 64 < 2046 → (0 < to_bits binary64 x / 2 ^ 52) × (to_bits binary64 x / 2 ^ 52 < 2047)
normal_field x fits h = let bits : to_bits binary64 x < 2 ^ 64 = to_bits-lt binary64 x fits in (omega arith, omega arith)

pub normal-scaled-requires : goal.normal-scaled-requires
normal-scaled-requires c =
    let x = c.args.x in
    let field = normal_field x (subst T (sym c.well_formed.0.1) tt) c.if-field-lt2046.true in
    (field.0, field.1, mask_lt (to_bits binary64 x) 52)

pub returns-then-is_nearest : goal.returns-then-is_nearest
returns-then-is_nearest c =
    let x = c.args.x in
    let fits = c.well_formed.0.1 in
    let field = normal_field x (subst T (sym fits) tt) c.if-field-lt2046.true in
    let plus = normal-plus x fits field.0 field.1 in
    c.joined.ensures ∙ rounded x plus _ _ _ (rescaled (square-high x fits plus (omega (arith, field.0))) c.normal-scaled.ensures) (c.is_nearest.ensures c.if-is_nearest.true)
