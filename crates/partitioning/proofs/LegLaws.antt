-- A leg, turn by turn: what is left of it, put behind what is held, is the whole; and there is room for it. Assumes nothing.
use mathlib.Core.Path.{◌≡◌, refl, sym, ◌∙◌}
use mathlib.Core.Logic.{inl, inr, ⊎_elim}
use mathlib.Core.Bool.{Bool, true, false, ◌&&◌, cond}
use mathlib.Core.List.{List, []}
use Rattle.std.specs.Prelude.{Option, Some, None, Ok, Err}
use Prim.Native.Nat.{ℕ, suc, ◌+◌, ◌-◌, ◌*◌, ◌≤◌, ◌<◌}
use native.Mathlib.Omega.{arith}
use borrow.Author.Tests.{eqb-true, eqb-false, lt-ltb}
use lib.Dec.{eqb, ltb}
use lib.ListN.{length}
use lib.Ieee.{Float, le}
use Rattle.errors.specs.Answer.{Answer, ◌>>=◌}
use Rattle.errors.specs.declared.Refusal.{Refusal}
use Rattle.points.specs.Numbers.{f0}
use Rattle.points.specs.declared.Point2.{Point2}
use Rattle.curve2.specs.Stations.{last_vertex, at_vertex}
use Rattle.curve2.specs.declared.CurveStation2.{CurveStation2}
use Rattle.cleaning.specs.Code.{Held, put}
use Rattle.cleaning.specs.declared.Kept.{Kept}
use Rattle.partitioning.specs.Walk.{along, reached, Leg, behind, leg_from}
use Rattle.partitioning.specs.Code.{Stops, EndAhead, Room, LegHeld, IsOn, working_at, next_of, turn_of, held, put_on, leg_put, leg_onto}
use Rattle.partitioning.specs.declared.Ends.{Ends}
use Rattle.partitioning.specs.declared.walk.Working.{Working}
use Rattle.partitioning.proofs.TurnLaws.{AtInner, at_inner, at-end}

-- ---- a turn that went on

pub record WentOn (ns : List Float) (tol : Float) (e : Ends) (s : CurveStation2) (v : Working) : Type 0 where
  pub not_reached : reached ns e s ≡ Ok false
  pub at : at_vertex ns tol (s.index + 1) ≡ Ok v.station
  pub is : v ≡ working_at ns v.station

pub went_on : (ns : List Float) (tol : Float) (e : Ends) (s : CurveStation2) (v : Working) → turn_of ns tol e s ≡ Ok (Some v) → WentOn ns tol e s v
unfolding turn_of next_of
went_on ns tol e s v h = go (reached ns e s) (at_vertex ns tol (s.index + 1)) refl refl h
  where
    go : (a : Answer Bool) (b : Answer CurveStation2) → reached ns e s ≡ a → at_vertex ns tol (s.index + 1) ≡ b
        → (a >>= λ stop. cond stop (Ok None) ((b >>= λ v. Ok (working_at ns v)) >>= λ v. Ok (Some v))) ≡ Ok (Some v) → WentOn ns tol e s v
    go (Err r) b p q h = let z : ◌≡◌ {A = ℕ} 0 1 = cc in absurd (omega arith)
    go (Ok true) b p q h = let z : ◌≡◌ {A = ℕ} 0 1 = cc in absurd (omega arith)
    go (Ok false) (Err r) p q h = let z : ◌≡◌ {A = ℕ} 0 1 = cc in absurd (omega arith)
    go (Ok false) (Ok u) p q h = record { not_reached = p; at = cc; is = cc }

-- a vertex is on an edge of the section
pub vertex_on : (ns : List Float) (tol : Float) (j : ℕ) (v : CurveStation2) → j ≤ last_vertex ns → 1 ≤ last_vertex ns → at_vertex ns tol j ≡ Ok v → v.index < last_vertex ns
vertex_on ns tol j v h k e = go (eqb j (last_vertex ns)) refl
  where
    go : (b : Bool) → eqb j (last_vertex ns) ≡ b → v.index < last_vertex ns
    go true g = let on = eqb-true _ _ g in omega (arith, (at-end ns tol j v on e).index, on)
    go false g = let off = eqb-false j (last_vertex ns) g in omega (arith, (at_inner ns tol j v off e).index, off)

-- ---- where the end lies ahead

-- at the first vertex of the end's edge the end is reached
pub stops_there : (ns : List Float) (e : Ends) (s : CurveStation2) → Stops ns e → s.fraction ≡ f0 → s.index ≡ e.end.index → reached ns e s ≡ Ok false → ⊥
unfolding reached
stops_there ns e s stops vertex same h = go (along ns s) refl h
  where
    go : (a : Answer Float) → along ns s ≡ a → (a >>= λ at. Ok (le at e.to && ltb e.end.index (s.index + 1))) ≡ Ok false → ⊥
    go (Err r) p h = let z : ◌≡◌ {A = ℕ} 0 1 = cc in omega arith
    go (Ok at) p h =
        let near : le at e.to ≡ true = stops at (rw (← same, ← vertex) p) in
        let behind : ltb e.end.index (s.index + 1) ≡ true = lt-ltb e.end.index (s.index + 1) (omega (arith, same)) in
        let q : Ok true ≡ Ok false = rw (near, behind) at h in
        let z : ◌≡◌ {A = ℕ} 0 1 = cc in omega arith

module _ (ns : List Float) (tol : Float) (e : Ends) (s : CurveStation2) (v : Working) (on : WentOn ns tol e s v) (a : EndAhead ns e s) where
  pub before-end : s.index < e.end.index
  before-end = go (eqb s.index e.end.index) refl
    where
      go : (b : Bool) → eqb s.index e.end.index ≡ b → s.index < e.end.index
      go true g = absurd (stops_there ns e s a.stops a.vertex (eqb-true _ _ g) on.not_reached)
      go false g = omega (arith, eqb-false s.index e.end.index g, a.before)

  pub inner : AtInner ns (s.index + 1) v.station
  inner = at_inner ns tol (s.index + 1) v.station (λ h. omega (arith, h, before-end, a.end)) on.at

  pub still_ahead : EndAhead ns e v.station
  still_ahead = record { vertex = inner.fraction; before = omega (arith, inner.index, before-end); end = a.end; stops = a.stops }

-- ---- room

module _ (ns : List Float) (tol : Float) (e : Ends) (s : CurveStation2) (v : Working) (on : WentOn ns tol e s v) (left count room : ℕ) (h : Room ns e (suc left) s count room) where
  pub room_here : 2 * count + 2 ≤ room
  room_here = ⊎_elim (λ g. omega (arith, g)) (λ g. omega (arith, g.1, before-end ns tol e s v on g.0)) h

  pub room_left : Room ns e left v.station (count + 1) room
  room_left = ⊎_elim (λ g. inl (omega (arith, g))) (λ g. inr (still_ahead ns tol e s v on g.0, omega (arith, g.1, before-end ns tol e s v on g.0, (inner ns tol e s v on g.0).index))) h

-- ---- what is left of a leg

abbrev pub onward : List Float → Float → Ends → ℕ → Option Working → Answer Leg
onward ns tol e left None = Ok (record { points = []; over = false })
onward ns tol e left (Some v) = leg_from ns tol e left v.station >>= λ leg. Ok (behind v.station leg)

pub leg_by_turn : (ns : List Float) (tol : Float) (e : Ends) (left : ℕ) (s : CurveStation2) → leg_from ns tol e (suc left) s ≡ (turn_of ns tol e s >>= onward ns tol e left)
unfolding leg_from turn_of next_of
leg_by_turn ns tol e left s = go (reached ns e s) (at_vertex ns tol (s.index + 1))
  where
    go : (a : Answer Bool) (b : Answer CurveStation2)
        → (a >>= λ stop. cond stop (Ok (record { points = []; over = false })) (b >>= λ v. leg_from ns tol e left v >>= λ leg. Ok (behind v leg)))
        ≡ ((a >>= λ stop. cond stop (Ok None) ((b >>= λ v. Ok (working_at ns v)) >>= λ v. Ok (Some v))) >>= onward ns tol e left)
    go (Err r) b = refl
    go (Ok true) b = refl
    go (Ok false) (Err r) = refl
    go (Ok false) (Ok v) = refl

-- what a leg from v puts behind it
onto_behind : (ns : List Float) (tol : Float) (e : Ends) (left : ℕ) (v : CurveStation2) (h : Held)
    → ((leg_from ns tol e left v >>= λ leg. Ok (behind v leg)) >>= λ l. Ok (leg_put h l)) ≡ leg_onto ns tol e left v (put h.kept.count v.point h.output)
unfolding leg_onto put_on
onto_behind ns tol e left v h = go (leg_from ns tol e left v)
  where
    go : (a : Answer Leg) → ((a >>= λ leg. Ok (behind v leg)) >>= λ l. Ok (leg_put h l)) ≡ (a >>= λ l. Ok (leg_put (put h.kept.count v.point h.output) l))
    go (Err r) = refl
    go (Ok l) = refl

module _ (ns : List Float) (tol : Float) (e : Ends) (left : ℕ) (s : CurveStation2) (h : Held) where
  pub leg-refused : (r : Refusal) → turn_of ns tol e s ≡ Err r → Err r ≡ leg_onto ns tol e (suc left) s h
  unfolding leg_onto
  leg-refused r f = rw (leg_by_turn ns tol e left s, f)

  pub leg-stops : turn_of ns tol e s ≡ Ok None → Ok (record { held = h; over = false }) ≡ leg_onto ns tol e (suc left) s h
  unfolding leg_onto put_on
  leg-stops f = rw (leg_by_turn ns tol e left s, f)

  pub leg-goes : (v : Working) → turn_of ns tol e s ≡ Ok (Some v) → leg_onto ns tol e left v.station (put h.kept.count v.station.point h.output) ≡ leg_onto ns tol e (suc left) s h
  unfolding leg_onto
  leg-goes v f = sym (onto_behind ns tol e left v.station h) ∙ rw (leg_by_turn ns tol e left s, f)

  pub leg-over : Ok (record { held = h; over = true }) ≡ leg_onto ns tol e 0 s h
  unfolding leg_onto leg_from put_on
  leg-over = refl

-- ---- the loop

pub record LegLeft (ns : List Float) (tol : Float) (e : Ends) (i : ℕ) (w : Working) (k : Kept) (out : List Float) (whole : Answer LegHeld) : Type 0 where
  pub on : IsOn ns w
  pub room : Room ns e i w.station k.count (length out)
  pub left : leg_onto ns tol e i w.station (held k out) ≡ whole

pub counted_one : (count : ℕ) (p : Point2) (old : List Float) (h : Held) → h ≡ put count p old → h.kept.count ≡ count + 1
unfolding put
counted_one count p old h e = rw e

module _ (ns : List Float) (tol : Float) (e : Ends) (most turn : ℕ) (w : Working) (k : Kept) (out : List Float) (whole : Answer LegHeld) (l : LegLeft ns tol e (most - turn) w k out whole) (some_left : turn < most) where
  pred : most - turn ≡ suc (most - (turn + 1))
  pred = omega arith

  here : leg_onto ns tol e (suc (most - (turn + 1))) w.station (held k out) ≡ whole
  here = rw (← pred) l.left

  pub loop_refused : (r : Refusal) → turn_of ns tol e w.station ≡ Err r → Err r ≡ whole
  loop_refused r f = leg-refused ns tol e (most - (turn + 1)) w.station (held k out) r f ∙ here

  pub loop_stops : turn_of ns tol e w.station ≡ Ok None → Ok (record { held = held k out; over = false }) ≡ whole
  loop_stops f = leg-stops ns tol e (most - (turn + 1)) w.station (held k out) f ∙ here

  module _ (v : Working) (f : turn_of ns tol e w.station ≡ Ok (Some v)) where
    went : WentOn ns tol e w.station v
    went = went_on ns tol e w.station v f

    room_now : Room ns e (suc (most - (turn + 1))) w.station k.count (length out)
    room_now = rw (← pred) l.room

    pub loop_room : 2 * k.count + 2 ≤ length out
    loop_room = room_here ns tol e w.station v went (most - (turn + 1)) k.count (length out) room_now

    pub loop_goes : 1 ≤ last_vertex ns → (k₂ : Kept) (out₂ : List Float) → held k₂ out₂ ≡ put k.count v.station.point out → length out₂ ≡ length out → LegLeft ns tol e (most - (turn + 1)) v k₂ out₂ whole
    loop_goes edge k₂ out₂ p q =
        let more = counted_one k.count v.station.point out (held k₂ out₂) p in
        record {
          on = record { on = vertex_on ns tol (w.station.index + 1) v.station (omega (arith, l.on.on)) edge went.at; is = went.is };
          room = rw (more, q) (room_left ns tol e w.station v went (most - (turn + 1)) k.count (length out) room_now);
          left = rw p (leg-goes ns tol e (most - (turn + 1)) w.station (held k out) v f ∙ here);
        }

pub loop_over : (ns : List Float) (tol : Float) (e : Ends) (most turn : ℕ) (w : Working) (k : Kept) (out : List Float) (whole : Answer LegHeld) → LegLeft ns tol e (most - turn) w k out whole → most ≤ turn
    → Ok (record { held = held k out; over = true }) ≡ whole
loop_over ns tol e most turn w k out whole l over = let none_left : most - turn ≡ 0 = omega arith in leg-over ns tol e (most - turn) w.station (held k out) ∙ (rw none_left at l.left)
