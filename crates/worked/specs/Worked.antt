-- The sums done by hand that are marked P: one row each. The one claim for all of them is the contract of `laws::worked_sums`. Assumes nothing.
use Rattle.std.specs.Prelude.{◌≡◌, Bool, true, false, List, [], ◌∷◌, ℕ, Float, Ok, Err}
use Rattle.std.specs.Float.{binary64}
use Rattle.std.specs.Float.Ieee.{of_bits, units, neg}
use Rattle.errors.specs.Answer.{Answer}
use Rattle.root.specs.Sqrt.{root_asked}
use Rattle.points.specs.Numbers.{◌-f◌, f0, f½, f1}
use Rattle.points.specs.declared.Vector2.{Vector2}
use Rattle.line2.specs.Lines.{line_of}
use Rattle.line2.specs.declared.Line2.{Line2}
use Rattle.curve2.specs.Section.{point}
use Rattle.cleaning.specs.Cleaning.{cleaned}
use Rattle.queries.specs.declared.Crossing.{Crossing}
use Rattle.curve2.specs.Stations.{station}
use Rattle.inscribed.specs.Circles.{inscribed}
use Rattle.circles.specs.Asked.{try_asked}
use Rattle.circles.specs.declared.CircleOnLine.{CircleOnLine}
use Rattle.halving.specs.Halving.{halving, resolve_tol, first_ends}
use Rattle.sections.specs.Asked.{at_length_asked, crossing_asked, joined_asked}
use Rattle.inscribed.specs.Store.{all_numbers}
use Rattle.inscribed.specs.declared.Inscribed.{Inscribed}
use Rattle.runs.specs.Run.{Ending, ended, spent}
use Rattle.lists.specs.Asked.{tmax_asked}
use Rattle.orient.specs.Orientation.{fwd_store, upper_store}
use Rattle.orient.specs.declared.OrientFwdAft.TheVariants.{Airflow, Fwd}
use Rattle.orient.specs.declared.OrientUpperLower.TheVariants.{Upper, Lower}
use Rattle.refine.specs.Report.{Called, ran, called_number}
use Rattle.points.specs.declared.Point2.{Point2}
use Rattle.gap.specs.Rounds.{FitEnd}
use Rattle.edges.specs.Edges.{EdgeInput, fit_of}
use Rattle.errors.specs.declared.Refusal.TheVariants.{GapMissed, NoCrossing, OffCurve, TooFewKept}

-- what the definitions give, and what the sum says
pub data Row : Type 1 where
  row : {A : Type 0} → A → A → Row

abbrev pub Holds : List Row → Type 0
Holds [] = Unit {0}
Holds (row given wanted ∷ rows) = (given ≡ wanted) × Holds rows

-- ---- numbers

abbrev f1½ : Float
f1½ = of_bits binary64 0x3ff8000000000000

abbrev f2 : Float
f2 = of_bits binary64 0x4000000000000000

abbrev f3 : Float
f3 = of_bits binary64 0x4008000000000000

abbrev f4 : Float
f4 = of_bits binary64 0x4010000000000000

abbrev f5 : Float
f5 = of_bits binary64 0x4014000000000000

abbrev f8 : Float
f8 = of_bits binary64 0x4020000000000000

abbrev f9 : Float
f9 = of_bits binary64 0x4022000000000000

abbrev f18 : Float
f18 = of_bits binary64 0x4032000000000000

abbrev f20 : Float
f20 = of_bits binary64 0x4034000000000000

abbrev f25 : Float
f25 = of_bits binary64 0x4039000000000000

abbrev f0·001 : Float
f0·001 = of_bits binary64 0x3f50624dd2f1a9fc

abbrev f0·01 : Float
f0·01 = of_bits binary64 0x3f847ae147ae147b

-- ---- inputs

-- "R is (0,0) (8,0) (8,2) (0,2) (0,0), section tolerance 0.001"
unfoldable pub R : List Float
R = f0 ∷ f0 ∷ f8 ∷ f0 ∷ f8 ∷ f2 ∷ f0 ∷ f2 ∷ f0 ∷ f0 ∷ []

-- what P2 and P3 clean
unfoldable pub four : List Float
four = f0 ∷ f0 ∷ f½ ∷ f0 ∷ f1 ∷ f0 ∷ f1½ ∷ f0 ∷ []

unfoldable pub two : List Float
two = f0 ∷ f0 ∷ f½ ∷ f0 ∷ []

unfoldable pub line : Float → Float → Float → Float → Line2
line ox oy dx dy = line_of (point ox oy) (record { x = dx; y = dy })

-- a crossing: its origin and its direction, and the two edges that it hits
unfoldable pub crossing : Float → Float → Float → Float → ℕ → ℕ → Crossing
unfolding line
crossing ox oy dx dy i j = record { line = line ox oy dx dy; edges = record { first = i; second = j } }

unfoldable pub vector : Float → Float → Vector2
vector x y = record { x = x; y = y }

-- "U is R without its last point"
unfoldable pub U : List Float
U = f0 ∷ f0 ∷ f8 ∷ f0 ∷ f8 ∷ f2 ∷ f0 ∷ f2 ∷ []

-- a circle at (x, y), contacts straight below and above on R and U: the lengths along are x and 18 - x
unfoldable pub upright : Float → Float → Float → Inscribed
upright x y r = inscribed (point x y) r (point x f0) (point x f2) x (f18 -f x)

-- a circle at (x, 1), "contacts straight below and above at y 0 and 2"
unfoldable pub circle : Float → Float → Inscribed
unfolding upright
circle x r = upright x f1 r

-- what stands in a slot that isn't in use
unfoldable pub unused : Inscribed
unused = inscribed (point f0 f0) f0 (point f0 f0) (point f0 f0) f0 f0

-- P9's two circles, and with their contacts swapped
unfoldable pub pair_of_u : List Float
unfolding circle
pair_of_u = all_numbers (circle f4 f1 ∷ circle f5 f1 ∷ [])

unfoldable pub swapped_of_u : List Float
swapped_of_u = all_numbers (inscribed (point f4 f1) f1 (point f4 f2) (point f4 f0) (f18 -f f4) f4 ∷ inscribed (point f5 f1) f1 (point f5 f2) (point f5 f0) (f18 -f f5) f5 ∷ [])

-- P10's two circles, and in the other order
unfoldable pub at_x : Float → Inscribed
at_x x = inscribed (point x f0) f1 (point x (neg f1)) (point x f1) x (f18 -f x)

unfoldable pub on_axis : List Float
unfolding at_x
on_axis = all_numbers (at_x f1 ∷ at_x f5 ∷ [])

unfoldable pub turned_on_axis : List Float
unfolding at_x
turned_on_axis = all_numbers (at_x f5 ∷ at_x f1 ∷ [])

-- the circles of P11 and P12 in a store of three slots
unfoldable pub edge_of_u : Bool → EdgeInput
unfolding U circle unused
edge_of_u at_front = record { section = U; section_tol = f0·001; tol = f0·01; store = all_numbers (circle f4 f1 ∷ circle f5 f1 ∷ unused ∷ []); count = 2; at_front = at_front }

-- what a fit gives, with its number
unfoldable pub numbered : Called Point2 → ℕ × Called Point2
numbered c = (called_number c, c)

unfoldable pub fit_ran : Ending FitEnd → ℕ → ℕ → List Inscribed → Called Point2
fit_ran e count units cs = ran (record { ending = e; count = count; units = units; store = all_numbers cs })

-- 1.00048828125 and 0.99951171875
abbrev high : Float
high = of_bits binary64 0x3ff0020000000000

abbrev narrow : Float
narrow = of_bits binary64 0x3feffc0000000000

-- 1.0009765625 and 0.9990234375
abbrev higher : Float
higher = of_bits binary64 0x3ff0040000000000

abbrev narrower : Float
narrower = of_bits binary64 0x3feff80000000000

-- ---- rows

-- root of 25; of 2: "5; hexadecimal bits 3FF6A09E667F3BCD"
unfoldable pub P1 : Row
P1 = row (root_asked f25 ∷ root_asked f2 ∷ []) (Ok f5 ∷ Ok (of_bits binary64 0x3FF6_A09E_667F_3BCD) ∷ [])

-- clean (0,0) (0.5,0) (1,0) (1.5,0), tolerance 0.5, unforced: "(0,0) (1,0)"
unfoldable pub P2 : Row
unfolding four
P2 = row (cleaned four f½ false 10) (Ok (point f0 f0 ∷ point f1 f0 ∷ []))

-- the first two of these: "5"
unfoldable pub P3 : Row
unfolding two
P3 = row (cleaned two f½ false 6) (Err TooFewKept)

-- R at length 9; 20; -0.5: "(8,1) edge 1 fraction 0.5; edge 3 fraction 1; 9". At 20 R is closed, so the direction is that of its first and last edge together.
unfoldable pub P4 : Row
unfolding R vector
P4 =
    row
    (at_length_asked R f0·001 f9 ∷ at_length_asked R f0·001 f20 ∷ at_length_asked R f0·001 (neg f½) ∷ [])
    (Ok (station (point f8 f1) (vector f0 f1) 1 f½) ∷ Ok (station (point f0 f0) (vector (of_bits binary64 0x3fe6a09e667f3bcc) (of_bits binary64 0xbfe6a09e667f3bcc)) 3 f1) ∷ Err OffCurve ∷ [])

-- R, line from (4,1) along (0,1): "(4,0) to (4,2)"; 02 (a): edges 0 and 2
unfoldable pub P5 : Row
unfolding R line crossing
P5 = row (crossing_asked R f0·001 (line f4 f1 f0 f1)) (Ok (crossing f4 f0 f0 f2 0 2))

-- R, from (4,1) along (4,1): "8; joined: (0,0) to (8,2)"; 02 (a): edges 0 and 1, those of the kept hits
unfoldable pub P6 : Row
unfolding R line crossing
P6 =
    row
    (crossing_asked R f0·001 (line f4 f1 f4 f1) ∷ joined_asked R f0·001 (line f4 f1 f4 f1) ∷ [])
    (Err NoCrossing ∷ Ok (crossing f0 f0 f8 f2 0 1) ∷ [])

-- the circle of P5's crossing after at most n halvings: the loop's own test ends it before, or it is made n times
unfoldable pub halved_times : ℕ → Answer Inscribed
unfolding R line
halved_times n = halving R (line f4 f0 f0 f2) (resolve_tol f0·01) f2 n (first_ends (point f4 f2) (point f4 f0))

-- P5's crossing, general tolerance 0.01: "11 halvings, centre (4, 1.00048828125), radius 0.99951171875, contacts (4,0), (4,2)".
-- Eleven halvings give that circle, and ten another: the loop makes eleven. 02 (a): asked for by P5's line, the circle comes with edges 0 and 2; 02 (f): its contacts are at lengths 4 and 14.
unfoldable pub P7 : Row
unfolding R line crossing halved_times upright
P7 =
    row {A = Answer CircleOnLine × List (Answer Inscribed)}
    (try_asked R f0·001 f0·01 (line f4 f1 f0 f1), halved_times 11 ∷ halved_times 10 ∷ [])
    (Ok (record { circle = upright f4 high narrow; edges = record { first = 0; second = 2 } }), Ok (upright f4 high narrow) ∷ Ok (upright f4 higher narrower) ∷ [])

-- radii 1, 3, 3, 2: "thickest at 2"
unfoldable pub P8 : Row
unfolding circle
P8 = row (tmax_asked (all_numbers (circle f1 f1 ∷ circle f2 f3 ∷ circle f4 f3 ∷ circle f5 f2 ∷ [])) 4) (Ok 2)

-- two circles, contact direction (0,2): Lower (1,0); Upper (-1,0): "swapped (product is -0); not"
unfoldable pub P9 : Row
unfolding pair_of_u swapped_of_u vector
P9 = row (upper_store (Lower (vector f1 f0)) pair_of_u 2 ∷ upper_store (Upper (vector (neg f1) f0)) pair_of_u 2 ∷ []) (swapped_of_u ∷ pair_of_u ∷ [])

-- centres (1,0), (5,0): Fwd (1,0); Airflow (1,0): "turned; not"
unfoldable pub P10 : Row
unfolding on_axis turned_on_axis vector
P10 = row (fwd_store (Fwd (vector f1 f0)) on_axis 2 ∷ fwd_store (Airflow (vector f1 f0)) on_axis 2 ∷ []) (turned_on_axis ∷ on_axis ∷ [])

-- U, 0.01, circles centre (4,1), (5,1), radius 1, contacts straight below and above at y 0 and 2, front, limit 1:
-- "point (0, 1.00048828125), three circles, centre x 2, 4, 5, one unit"; 02 (f): the new contacts are at lengths 2 and 16
unfoldable pub P11 : Row
unfolding edge_of_u numbered fit_ran upright circle
P11 =
    row
    (numbered (fit_of (edge_of_u true) 1))
    (0, fit_ran (ended (Ok (point f0 high))) 3 1 (upright f2 high narrow ∷ circle f4 f1 ∷ circle f5 f1 ∷ []))

-- "P11 at the back; P11 with limit 0": "20; 14, two circles"
unfoldable pub P12 : Row
unfolding edge_of_u numbered fit_ran circle unused
P12 =
    row
    (numbered (fit_of (edge_of_u false) 1) ∷ numbered (fit_of (edge_of_u true) 0) ∷ [])
    ((20, fit_ran (ended (Err GapMissed)) 2 0 (circle f4 f1 ∷ circle f5 f1 ∷ unused ∷ [])) ∷ (14, fit_ran spent 2 0 (circle f4 f1 ∷ circle f5 f1 ∷ unused ∷ [])) ∷ [])

unfoldable pub table : List Row
unfolding P1 P2 P3 P4 P5 P6 P7 P8 P9 P10 P11 P12
table = P1 ∷ P2 ∷ P3 ∷ P4 ∷ P5 ∷ P6 ∷ P7 ∷ P8 ∷ P9 ∷ P10 ∷ P11 ∷ P12 ∷ []
