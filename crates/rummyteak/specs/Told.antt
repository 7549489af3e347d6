-- What a call by the C interface returns, and what it leaves behind the references that it is lent: its values where there is a result, else what stood there. Assumes nothing.
use Rattle.std.specs.Prelude.{Bool, true, false, if◌then◌else◌, nat_lt, List, [], ◌∷◌, ℕ, ◌-◌, ◌*◌, Float, Option, Some, None, Ok, Err}
use Rattle.errors.specs.Answer.{Answer, number_of, ◌>>=◌}
use Rattle.points.specs.declared.Point2.{Point2}
use Rattle.line2.specs.declared.Line2.{Line2}
use Rattle.curve2.specs.declared.CurveStation2.{CurveStation2}
use Rattle.cleaning.specs.declared.Curve.{Curve}
use Rattle.partitioning.specs.declared.Piece.{Piece}
use Rattle.partitioning.specs.declared.Pieces.{Pieces}
use Rattle.queries.specs.declared.HitEdges.{HitEdges}
use Rattle.queries.specs.declared.Crossing.{Crossing}
use Rattle.circles.specs.declared.CircleOnLine.{CircleOnLine}
use Rattle.runs.specs.Run.{Ending, ended, spent, unfinished}
use Rattle.inscribed.specs.Store.{width, numbers_of, circles_entry}
use Rattle.inscribed.specs.declared.Inscribed.{Inscribed}
use Rattle.inscribed.specs.declared.FrontAndBack.{FrontAndBack}
use Rattle.refine.specs.Report.{Called, refused_on_entry, ran, ending_number}
use Rattle.camber.specs.March.{MarchTold}
use Rattle.camber.specs.declared.state.MarchState.{MarchState}
use Rattle.rummyteak.specs.declared.given.StateCells.{StateCells}

-- the number that is returned, 0 for a result, and what is left behind the references
pub record Told (A : Type 0) : Type 0 where
  pub number : ℕ
  pub left : A

-- f of a result is written; a refusal leaves what stood there before
unfoldable pub told_as : {A B : Type 0} → (A → B) → B → Answer A → Told B
told_as f before (Ok a) = record { number = 0; left = f a }
told_as f before (Err r) = record { number = number_of r; left = before }

-- a result is written as it is
abbrev pub told : {A : Type 0} → A → Answer A → Told A
told before answer = told_as (λ a. a) before answer

-- ---- what is handed in

-- a line by its origin and its direction
abbrev pub given_line : Float → Float → Float → Float → Line2
given_line ox oy dx dy = record { origin = record { x = ox; y = oy }; direction = record { x = dx; y = dy } }

-- a state by its cells: refining where the first isn't 0
abbrev pub given_state : StateCells → MarchState
given_state c = record { is_refining = nat_lt 0 c.refining; fraction = c.fraction; count = c.count; waiting = c.waiting }

-- ---- what is written

abbrev pub line_numbers : Line2 → List Float
line_numbers l = l.origin.x ∷ l.origin.y ∷ l.direction.x ∷ l.direction.y ∷ []

-- the two edges of a crossing
abbrev pub edge_numbers : HitEdges → List ℕ
edge_numbers e = e.first ∷ e.second ∷ []

-- numbers, and the edges of the crossing that they come from
pub record CrossingCells : Type 0 where
  pub numbers : List Float
  pub edges : List ℕ

abbrev pub crossing_cells : List Float → List ℕ → CrossingCells
crossing_cells ns es = record { numbers = ns; edges = es }

abbrev pub crossing_left : Crossing → CrossingCells
crossing_left c = crossing_cells (line_numbers c.line) (edge_numbers c.edges)

abbrev pub circle_on_line_left : CircleOnLine → CrossingCells
circle_on_line_left c = crossing_cells (numbers_of c.circle) (edge_numbers c.edges)

-- a station's numbers, point, direction and fraction, and its edge
pub record StationCells : Type 0 where
  pub numbers : List Float
  pub index : ℕ

abbrev pub station_cells : List Float → ℕ → StationCells
station_cells ns i = record { numbers = ns; index = i }

abbrev pub station_left : CurveStation2 → StationCells
station_left s = station_cells (s.point.x ∷ s.point.y ∷ s.direction.x ∷ s.direction.y ∷ s.fraction ∷ []) s.index

-- the circle of a trial, and whether there is one to add; no circle is written where there is none
pub record TrialCells : Type 0 where
  pub circle : List Float
  pub added : Bool

abbrev pub trial_cells : List Float → Bool → TrialCells
trial_cells ns b = record { circle = ns; added = b }

abbrev pub trial_left : List Float → Option Inscribed → TrialCells
trial_left before (Some c) = trial_cells (numbers_of c) true
trial_left before None = trial_cells before false

-- the first and the last circle
pub record EndCells : Type 0 where
  pub front : List Float
  pub back : List Float

abbrev pub end_cells : List Float → List Float → EndCells
end_cells a b = record { front = a; back = b }

abbrev pub ends_left : FrontAndBack → EndCells
ends_left e = end_cells (numbers_of e.front) (numbers_of e.back)

-- a curve's count of points, and whether it is closed
abbrev pub curve_cells : ℕ → Bool → Curve
curve_cells n b = record { count = n; is_closed = b }

-- a piece's count of points, whether it is closed, and the count of points given
abbrev pub piece_cells : ℕ → Bool → ℕ → Piece
piece_cells n b g = record { count = n; is_closed = b; given = g }

-- the same of both pieces of a split
pub record PiecesCells : Type 0 where
  pub counts : List ℕ
  pub closed : List Bool
  pub given : List ℕ

abbrev pub pieces_cells : List ℕ → List Bool → List ℕ → PiecesCells
pieces_cells ns bs gs = record { counts = ns; closed = bs; given = gs }

abbrev pub pieces_left : Pieces → PiecesCells
pieces_left p = pieces_cells (p.first.count ∷ p.second.count ∷ []) (p.first.is_closed ∷ p.second.is_closed ∷ []) (p.first.given ∷ p.second.given ∷ [])

-- a part of a store: where it starts, and how many numbers it has
pub record PartCells : Type 0 where
  pub first : ℕ
  pub numbers : ℕ

abbrev pub part_cells : ℕ → ℕ → PartCells
part_cells i n = record { first = i; numbers = n }

-- the circles in use from a place on
abbrev pub part_of : List Float → ℕ → ℕ → Answer PartCells
part_of ns count place = circles_entry ns count place >>= λ passed. Ok (part_cells (place * width) ((count - place) * width))

-- ---- runs

-- count and units are written wherever the run was not refused on entry
pub record ToldRun : Type 0 where
  pub number : ℕ
  pub count : ℕ
  pub units : ℕ
  pub store : List Float

unfoldable pub told_run : {A : Type 0} → ℕ → ℕ → Called A → ToldRun
told_run count units (refused_on_entry r store) = record { number = number_of r; count = count; units = units; store = store }
told_run count units (ran r) = record { number = ending_number r.ending; count = r.count; units = r.units; store = r.store }

-- the edges of a march's start, and whether they were found: told wherever the march was not refused on entry
pub record StartCells : Type 0 where
  pub edges : List ℕ
  pub found : Bool

abbrev pub start_cells : List ℕ → Bool → StartCells
start_cells es b = record { edges = es; found = b }

unfoldable pub edges_left : List ℕ → Option HitEdges → StartCells
edges_left before (Some e) = start_cells (edge_numbers e) true
edges_left before None = start_cells before false

unfoldable pub start_after : StartCells → Option HitEdges → Called (Unit {0}) → StartCells
unfolding edges_left
start_after before edges (refused_on_entry r store) = before
start_after before edges (ran r) = edges_left before.edges edges

abbrev pub start_left : StartCells → MarchTold → StartCells
start_left before m = start_after before m.edges m.called

-- the state of a march or a going on, where it hands one out
unfoldable pub state_left : StateCells → Option MarchState → StateCells
state_left before None = before
state_left before (Some s) = record { refining = if s.is_refining then 1 else 0; fraction = s.fraction; count = s.count; waiting = s.waiting }

-- the edge point of a fit, where it ends with one
unfoldable pub point_at_end : List Float → Ending (Answer Point2) → List Float
point_at_end before (ended (Ok p)) = p.x ∷ p.y ∷ []
point_at_end before (ended (Err r)) = before
point_at_end before spent = before
point_at_end before unfinished = before

unfoldable pub point_left : List Float → Called Point2 → List Float
unfolding point_at_end
point_left before (refused_on_entry r store) = before
point_left before (ran r) = point_at_end before r.ending
