-- The code's own listings: where the walk is, what it asks for, and what it put. No entry point's promise rests on it. Assumes nothing.
use Rattle.std.specs.Prelude.{◌≡◌, ◌⊎◌, Bool, true, cond, List, [], ◌∷◌, ℕ, ◌+◌, ◌-◌, ◌*◌, ◌≤◌, ◌<◌, length, Float, Option, Some, None, Ok, Err, IfOk}
use Rattle.std.specs.Float.Ieee.{le}
use Rattle.errors.specs.Answer.{Answer, ◌>>=◌}
use Rattle.points.specs.Numbers.{f0}
use Rattle.points.specs.declared.Point2.{Point2}
use Rattle.curve2.specs.Section.{points_of, is_closed}
use Rattle.curve2.specs.Entry.{HasPoints, IsSection}
use Rattle.curve2.specs.Stations.{last_vertex, at_vertex}
use Rattle.curve2.specs.declared.CurveStation2.{CurveStation2}
use Rattle.cleaning.specs.Cleaning.{most_cleaned, placed}
use Rattle.cleaning.specs.Code.{Held, put}
use Rattle.cleaning.specs.declared.Kept.{Kept}
use Rattle.cleaning.specs.declared.checked.Uncleaned.{Uncleaned}
use Rattle.sections.specs.Places.{length_at, length_along}
use Rattle.partitioning.specs.Walk.{wrap, given_between, or_too_few, reached, Leg, leg_from, from_front, walked}
use Rattle.partitioning.specs.declared.Ends.{Ends}
use Rattle.partitioning.specs.declared.walk.LegKept.{LegKept}
use Rattle.partitioning.specs.declared.walk.Working.{Working}

-- ---- what is known of the section

-- It passed the entry tests, has at most 4,095 points, and leaves an output room for two numbers more than its own.
pub record IsCuttable (ns : List Float) (tol : Float) (room : ℕ) : Type 0 where
  pub section : IsSection ns tol
  pub most : length ns ≤ 2 * most_cleaned
  pub fits : length ns + 2 ≤ room

-- ---- what is known of the two stations

-- the walk stops at the first vertex of the end's edge, if it comes there
abbrev pub Stops : List Float → Ends → Type 0
Stops ns e = (at : Float) → length_along ns e.end.index f0 ≡ Ok at → le at e.to ≡ true

pub record Walkable (ns : List Float) (tol : Float) (e : Ends) : Type 0 where
  pub points : HasPoints ns
  pub start : e.start.index < last_vertex ns
  pub end : e.end.index < last_vertex ns
  pub stops : Stops ns e
  pub seam : wrap e ≡ true → is_closed ns tol ≡ true
  pub order : wrap e ≡ true → e.end.index ≤ e.start.index

-- ---- where the walk is

-- a station, with the lengths at both vertices of its edge
abbrev pub working_at : List Float → CurveStation2 → Working
working_at ns s = record { station = s; m = length_at ns s.index; n = length_at ns (s.index + 1) }

-- what the walk has at a station of the section
pub record IsOn (ns : List Float) (w : Working) : Type 0 where
  pub on : w.station.index < last_vertex ns
  pub is : w ≡ working_at ns w.station

-- the next vertex
unfoldable pub next_of : List Float → Float → CurveStation2 → Answer Working
next_of ns tol w = at_vertex ns tol (w.index + 1) >>= λ v. Ok (working_at ns v)

-- one turn: the end is reached, or the next vertex
unfoldable pub turn_of : List Float → Float → Ends → CurveStation2 → Answer (Option Working)
turn_of ns tol e w = reached ns e w >>= λ stop. cond stop (Ok None) (next_of ns tol w >>= λ v. Ok (Some v))

-- How many points a leg may put: one for every vertex left; or, from a vertex that the end's edge doesn't lie before, one for every vertex up to that edge.
pub record EndAhead (ns : List Float) (e : Ends) (w : CurveStation2) : Type 0 where
  pub vertex : w.fraction ≡ f0
  pub before : w.index ≤ e.end.index
  pub end : e.end.index < last_vertex ns
  pub stops : Stops ns e

abbrev pub Room : List Float → Ends → ℕ → CurveStation2 → ℕ → ℕ → Type 0
Room ns e left w count room = (2 * (count + left) ≤ room) ⊎ (EndAhead ns e w × (2 * (count + (e.end.index - w.index)) ≤ room))

-- ---- what was put

-- points put one after the other behind those that are held
unfoldable pub put_on : Held → List Point2 → Held
unfolding put
put_on h [] = h
put_on h (p ∷ ps) = put_on (put h.kept.count p h.output) ps

pub record LegHeld : Type 0 where
  pub held : Held
  pub over : Bool

abbrev pub held : Kept → List Float → Held
held k out = record { kept = k; output = out }

abbrev pub leg_put : Held → Leg → LegHeld
leg_put h l = record { held = put_on h l.points; over = l.over }

unfoldable pub leg_onto : List Float → Float → Ends → ℕ → CurveStation2 → Held → Answer LegHeld
leg_onto ns tol e left w h = leg_from ns tol e left w >>= λ l. Ok (leg_put h l)

abbrev pub listed_leg : Answer LegKept → List Float → Answer LegHeld
listed_leg (Ok l) out = Ok (record { held = held l.kept out; over = l.over })
listed_leg (Err r) out = Err r

unfoldable pub front_onto : List Float → Float → Ends → Held → Answer Held
front_onto ns tol e h = from_front ns tol e >>= λ ps. Ok (put_on h ps)

unfoldable pub walk_onto : List Float → Float → Ends → Held → Answer Held
walk_onto ns tol e h = walked ns tol e >>= λ ps. Ok (put_on h ps)

abbrev pub listed_put : Answer Kept → List Float → Answer Held
listed_put (Ok k) out = Ok (held k out)
listed_put (Err r) out = Err r

-- the points given, of which two or more are kept
unfoldable pub enough_between : List Float → Float → Ends → Answer (List Point2)
enough_between ns tol e = given_between ns tol e >>= or_too_few tol

-- the points given, as the cleaning takes them
pub record AreGiven (given : Answer (List Point2)) (tol : Float) (r : Answer Uncleaned) : Type 0 where
  pub points : (r >>= λ u. Ok (points_of u.points.now)) ≡ given
  pub tolerance : IfOk r (λ u. u.tol ≡ tol)

-- the points given stand from the start of `new` on, and are counted
pub record Laid (given : Answer (List Point2)) (old new : List Float) (r : Answer ℕ) : Type 0 where
  pub counted : r ≡ (given >>= λ ps. Ok (length ps))
  pub stand : (ps : List Point2) → given ≡ Ok ps → new ≡ placed ps old
