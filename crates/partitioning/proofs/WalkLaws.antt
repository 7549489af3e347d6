-- The walk from its legs: what it puts, and how many points that can be. Assumes nothing.
use mathlib.Core.Path.{◌≡◌, refl, sym, ap, ◌∙◌}
use mathlib.Core.Logic.{inl, inr}
use mathlib.Core.Bool.{Bool, true, false, ◌&&◌, cond}
use mathlib.Core.List.{List, [], ◌∷◌, ◌++◌, append_assoc, append-nil}
use Rattle.std.specs.Prelude.{Option, Some, None, Ok, Err}
use Prim.Native.Nat.{ℕ, zero, suc, ◌+◌, ◌-◌, ◌*◌, ◌≤◌, ◌<◌}
use native.Mathlib.Omega.{arith}
use lib.ListN.{length, length-append}
use lib.Ieee.{Float}
use Rattle.errors.specs.Answer.{Answer, ◌>>=◌}
use Rattle.errors.specs.declared.Refusal.{Refusal}
use Rattle.points.specs.declared.Point2.{Point2}
use Rattle.curve2.specs.Section.{is_closed}
use Rattle.curve2.specs.Stations.{last_vertex, at_vertex}
use Rattle.curve2.specs.declared.CurveStation2.{CurveStation2}
use Rattle.cleaning.specs.Cleaning.{point_numbers}
use Rattle.cleaning.specs.Code.{Held, put, holding}
use Rattle.cleaning.proofs.HeldLaws.{put-holding}
use Rattle.partitioning.specs.Walk.{wrap, last_index, Leg, behind, leg_from, from_front, walked}
use Rattle.partitioning.specs.Code.{Walkable, EndAhead, Room, LegHeld, working_at, turn_of, put_on, leg_put, leg_onto, front_onto, walk_onto}
use Rattle.partitioning.specs.declared.Ends.{Ends}
use Rattle.partitioning.specs.declared.walk.Working.{Working}
use Rattle.partitioning.proofs.TurnLaws.{at_inner}
use Rattle.partitioning.proofs.LegLaws.{went_on, before-end, inner, still_ahead, onward, leg_by_turn}

-- ---- how many points a leg has

-- one for every vertex left, where it goes over the last index; else fewer
pub record Few (left : ℕ) (leg : Leg) : Type 0 where
  pub most : length leg.points ≤ left
  pub all : leg.over ≡ true → length leg.points ≡ left

few_behind : (left : ℕ) (v : CurveStation2) (a : Answer Leg) (leg : Leg) → ((l : Leg) → a ≡ Ok l → Few left l) → (a >>= λ l. Ok (behind v l)) ≡ Ok leg → Few (suc left) leg
few_behind left v (Err r) leg ih h = let z : ◌≡◌ {A = ℕ} 0 1 = cc in absurd (omega arith)
few_behind left v (Ok l) leg ih h =
    let f = ih l refl in
    let is : leg ≡ behind v l = cc in
    rw is (record { most = omega (arith, f.most); all = λ o. omega (arith, f.all o) })

pub leg_few : (ns : List Float) (tol : Float) (e : Ends) (left : ℕ) (s : CurveStation2) (leg : Leg) → leg_from ns tol e left s ≡ Ok leg → Few left leg
unfolding leg_from
leg_few ns tol e zero s leg h = let is : leg ≡ record { points = []; over = true } = cc in rw is (record { most = omega arith; all = λ o. refl })
leg_few ns tol e (suc left) s leg h = go (turn_of ns tol e s) (λ v. leg_few ns tol e left v) (sym (leg_by_turn ns tol e left s) ∙ h)
  where
    go : (t : Answer (Option Working)) → ((v : CurveStation2) (l : Leg) → leg_from ns tol e left v ≡ Ok l → Few left l) → (t >>= onward ns tol e left) ≡ Ok leg → Few (suc left) leg
    go (Err r) ih h = let z : ◌≡◌ {A = ℕ} 0 1 = cc in absurd (omega arith)
    go (Ok None) ih h = let is : leg ≡ record { points = []; over = false } = cc in rw is (record { most = omega arith; all = λ o. (let z : ◌≡◌ {A = ℕ} 0 1 = cc in absurd (omega arith)) })
    go (Ok (Some v)) ih h = few_behind left v.station (leg_from ns tol e left v.station) leg (ih v.station) h

-- where the end lies ahead: one for every vertex up to its edge
ahead_behind : (most : ℕ) (v : CurveStation2) (a : Answer Leg) (leg : Leg) → ((l : Leg) → a ≡ Ok l → length l.points ≤ most) → (a >>= λ l. Ok (behind v l)) ≡ Ok leg → length leg.points ≤ suc most
ahead_behind most v (Err r) leg ih h = let z : ◌≡◌ {A = ℕ} 0 1 = cc in absurd (omega arith)
ahead_behind most v (Ok l) leg ih h = let is : leg ≡ behind v l = cc in rw is (omega (arith, ih l refl))

pub leg_ahead : (ns : List Float) (tol : Float) (e : Ends) (left : ℕ) (s : CurveStation2) (leg : Leg) → EndAhead ns e s → leg_from ns tol e left s ≡ Ok leg → length leg.points ≤ e.end.index - s.index
unfolding leg_from
leg_ahead ns tol e zero s leg a h = let is : leg ≡ record { points = []; over = true } = cc in rw is (omega arith)
leg_ahead ns tol e (suc left) s leg a h = go (turn_of ns tol e s) (λ v. leg_ahead ns tol e left v) refl (sym (leg_by_turn ns tol e left s) ∙ h)
  where
    go : (t : Answer (Option Working)) → ((v : CurveStation2) (l : Leg) → EndAhead ns e v → leg_from ns tol e left v ≡ Ok l → length l.points ≤ e.end.index - v.index) → turn_of ns tol e s ≡ t → (t >>= onward ns tol e left) ≡ Ok leg → length leg.points ≤ e.end.index - s.index
    go (Err r) ih p h = let z : ◌≡◌ {A = ℕ} 0 1 = cc in absurd (omega arith)
    go (Ok None) ih p h = let is : leg ≡ record { points = []; over = false } = cc in rw is (omega arith)
    go (Ok (Some v)) ih p h =
        let on = went_on ns tol e s v p in
        omega (
          arith,
          ahead_behind (e.end.index - v.station.index) v.station (leg_from ns tol e left v.station) leg (λ l q. ih v.station l (still_ahead ns tol e s v on a) q) h,
          before-end ns tol e s v on a,
          (inner ns tol e s v on a).index,
        )

-- ---- how many points the walk has

-- the front is a vertex, and the end lies ahead of it
pub front_ahead : (ns : List Float) (tol : Float) (e : Ends) (front : CurveStation2) → Walkable ns tol e → at_vertex ns tol 0 ≡ Ok front → EndAhead ns e front × (front.index ≡ 0)
front_ahead ns tol e front w h =
    let i = at_inner ns tol 0 front (λ z. omega (arith, z, w.end)) h in
    (record { vertex = i.fraction; before = omega (arith, i.index); end = w.end; stops = w.stops }, i.index)

front-most : (ns : List Float) (tol : Float) (e : Ends) (ps : List Point2) → Walkable ns tol e → from_front ns tol e ≡ Ok ps → length ps ≤ e.end.index + 1
unfolding from_front
front-most ns tol e ps w h = go (at_vertex ns tol 0) refl h
  where
    then : (front : CurveStation2) (a : Answer Leg) → (EndAhead ns e front × (front.index ≡ 0)) → ((l : Leg) → a ≡ Ok l → length l.points ≤ e.end.index - front.index)
        → (a >>= λ leg. Ok (front.point ∷ leg.points)) ≡ Ok ps → length ps ≤ e.end.index + 1
    then front (Err r) a ih h = let z : ◌≡◌ {A = ℕ} 0 1 = cc in absurd (omega arith)
    then front (Ok l) a ih h = let is : ps ≡ front.point ∷ l.points = cc in rw is (omega (arith, ih l refl, a.1))

    go : (f : Answer CurveStation2) → at_vertex ns tol 0 ≡ f → (f >>= λ front. leg_from ns tol e (last_index ns tol) front >>= λ leg. Ok (front.point ∷ leg.points)) ≡ Ok ps
        → length ps ≤ e.end.index + 1
    go (Err r) p h = let z : ◌≡◌ {A = ℕ} 0 1 = cc in absurd (omega arith)
    go (Ok front) p h =
        let a = front_ahead ns tol e front w p in
        then front (leg_from ns tol e (last_index ns tol) front) a (λ l q. leg_ahead ns tol e (last_index ns tol) front l a.0 q) h

-- the last index is an edge's number, where the walk may go over the seam
pub last_closed : (ns : List Float) (tol : Float) (e : Ends) → Walkable ns tol e → wrap e ≡ true → last_index ns tol ≡ last_vertex ns - 1
last_closed ns tol e w h = rw (w.seam h)

pub last_most : (ns : List Float) (tol : Float) → last_index ns tol ≤ last_vertex ns
last_most ns tol = go (is_closed ns tol)
  where
    go : (b : Bool) → cond b (last_vertex ns - 1) (last_vertex ns) ≤ last_vertex ns
    go true = omega arith
    go false = omega arith

-- As many points as the section has, with the start's: over the seam the first leg has the vertices behind the start's edge, the second those up to the end's, which is no later edge.
pub walked-most : (ns : List Float) (tol : Float) (e : Ends) (ps : List Point2) → Walkable ns tol e → walked ns tol e ≡ Ok ps → 2 * (length ps + 1) ≤ length ns
unfolding walked
walked-most ns tol e ps w h = go (leg_from ns tol e (last_index ns tol - e.start.index) e.start) refl h
  where
    over : (first : Leg) (b c : Bool) (f : Answer (List Point2)) → Few (last_index ns tol - e.start.index) first → first.over ≡ b → wrap e ≡ c → from_front ns tol e ≡ f
        → cond (b && c) (f >>= λ qs. Ok (first.points ++ qs)) (Ok first.points) ≡ Ok ps → 2 * (length ps + 1) ≤ length ns
    over first false c f few o p q h = let is : ps ≡ first.points = cc in rw is (omega (arith, few.most, last_most ns tol, w.points.least))
    over first true false f few o p q h = let is : ps ≡ first.points = cc in rw is (omega (arith, few.most, last_most ns tol, w.points.least))
    over first true true (Err r) few o p q h = let z : ◌≡◌ {A = ℕ} 0 1 = cc in absurd (omega arith)
    over first true true (Ok qs) few o p q h =
        let is : ps ≡ first.points ++ qs = cc in
        rw is (omega (arith, few.all o, front-most ns tol e qs w q, length-append first.points qs, w.order p, last_closed ns tol e w p, w.start))

    go : (a : Answer Leg) → leg_from ns tol e (last_index ns tol - e.start.index) e.start ≡ a
        → (a >>= λ first. cond (first.over && wrap e) (from_front ns tol e >>= λ ps. Ok (first.points ++ ps)) (Ok first.points)) ≡ Ok ps → 2 * (length ps + 1) ≤ length ns
    go (Err r) p h = let z : ◌≡◌ {A = ℕ} 0 1 = cc in absurd (omega arith)
    go (Ok first) p h = over first first.over (wrap e) (from_front ns tol e) (leg_few ns tol e (last_index ns tol - e.start.index) e.start first p) refl refl refl h

-- ---- what is put

pub put_then : (h : Held) (ps qs : List Point2) → put_on (put_on h ps) qs ≡ put_on h (ps ++ qs)
unfolding put_on
put_then h [] qs = refl
put_then h (p ∷ ps) qs = put_then (put h.kept.count p h.output) ps qs

pub put-counted : (h : Held) (ps : List Point2) → (put_on h ps).kept.count ≡ h.kept.count + length ps
unfolding put_on put
put-counted h [] = omega arith
put-counted h (p ∷ ps) = omega (arith, put-counted (put h.kept.count p h.output) ps)

-- behind points that are held, in an output that has room
pub put_all_lem : (old : List Float) (ps qs : List Point2) → 2 * (length ps + length qs) ≤ length old → put_on (holding old ps) qs ≡ holding old (ps ++ qs)
unfolding put_on holding
put_all_lem old ps [] h = rw (append-nil ps)
put_all_lem old ps (q ∷ qs) h =
    rw (put-holding old ps q (omega arith))
    (put_all_lem old (ps ++ (q ∷ [])) qs (omega (arith, length-append ps (q ∷ []))) ∙ ap (λ (l : List Point2). holding old l) (append_assoc ps (q ∷ []) qs))

pub put_first : (old : List Float) (p : Point2) (ps : List Point2) → 2 * (length ps + 1) ≤ length old → put_on (put 0 p old) ps ≡ holding old (p ∷ ps)
unfolding point_numbers
put_first old p ps h = rw (put-holding old [] p (omega arith)) (put_all_lem old (p ∷ []) ps (omega arith))

-- ---- the parts of the walk, one behind the other

module _ (ns : List Float) (tol : Float) (e : Ends) (h : Held) where
  pub front-refused : (r : Refusal) → at_vertex ns tol 0 ≡ Err r → Err r ≡ front_onto ns tol e h
  unfolding front_onto from_front
  front-refused r f = rw f

  module _ (front : CurveStation2) (at : at_vertex ns tol 0 ≡ Ok front) (h₂ : Held) (p : h₂ ≡ put h.kept.count front.point h.output) where
    as_leg : (leg_onto ns tol e (last_index ns tol) front h₂ >>= λ l. Ok l.held) ≡ front_onto ns tol e h
    unfolding front_onto from_front leg_onto put_on
    as_leg = rw (at, p) (go (leg_from ns tol e (last_index ns tol) front))
      where
        go : (a : Answer Leg) → ((a >>= λ l. Ok (leg_put (put h.kept.count front.point h.output) l)) >>= λ l. Ok l.held)
            ≡ ((a >>= λ leg. Ok (front.point ∷ leg.points)) >>= λ ps. Ok (put_on h ps))
        go (Err r) = refl
        go (Ok l) = refl

    pub front-leg-refused : (r : Refusal) → Err r ≡ leg_onto ns tol e (last_index ns tol) front h₂ → Err r ≡ front_onto ns tol e h
    front-leg-refused r f = rw (← f) at as_leg

    pub front-leg : (l : LegHeld) → Ok l ≡ leg_onto ns tol e (last_index ns tol) front h₂ → Ok l.held ≡ front_onto ns tol e h
    front-leg l f = rw (← f) at as_leg

module _ (ns : List Float) (tol : Float) (e : Ends) (h : Held) where
  abbrev pub first : Answer LegHeld
  first = leg_onto ns tol e (last_index ns tol - e.start.index) e.start h

  by_first : (first >>= λ l. cond (l.over && wrap e) (front_onto ns tol e l.held) (Ok l.held)) ≡ walk_onto ns tol e h
  unfolding walk_onto walked leg_onto front_onto
  by_first = go (leg_from ns tol e (last_index ns tol - e.start.index) e.start)
    where
      over : (l : Leg) (b : Bool) (f : Answer (List Point2)) → cond b (f >>= λ ps. Ok (put_on (put_on h l.points) ps)) (Ok (put_on h l.points))
          ≡ (cond b (f >>= λ ps. Ok (l.points ++ ps)) (Ok l.points) >>= λ ps. Ok (put_on h ps))
      over l false f = refl
      over l true (Err r) = refl
      over l true (Ok ps) = rw (put_then h l.points ps)

      go : (a : Answer Leg) → ((a >>= λ l. Ok (leg_put h l)) >>= λ l. cond (l.over && wrap e) (from_front ns tol e >>= λ ps. Ok (put_on l.held ps)) (Ok l.held))
          ≡ ((a >>= λ first. cond (first.over && wrap e) (from_front ns tol e >>= λ ps. Ok (first.points ++ ps)) (Ok first.points)) >>= λ ps. Ok (put_on h ps))
      go (Err r) = refl
      go (Ok l) = over l (l.over && wrap e) (from_front ns tol e)

  pub walk_refused : (r : Refusal) → Err r ≡ first → Err r ≡ walk_onto ns tol e h
  walk_refused r f = rw (← f) at by_first

  module _ (l : LegHeld) (f : Ok l ≡ first) where
    pub walk_inside : l.over ≡ false → Ok l.held ≡ walk_onto ns tol e h
    walk_inside o = rw (← f, o) at by_first

    pub walk_ahead : l.over ≡ true → wrap e ≡ false → Ok l.held ≡ walk_onto ns tol e h
    walk_ahead o w = rw (← f, o, w) at by_first

    pub walk_over : l.over ≡ true → wrap e ≡ true → front_onto ns tol e l.held ≡ walk_onto ns tol e h
    walk_over o w = rw (← f, o, w) at by_first

    -- how many points a leg that went over the last index put
    pub over-count : l.over ≡ true → l.held.kept.count ≡ h.kept.count + (last_index ns tol - e.start.index)
    unfolding leg_onto
    over-count o = go (leg_from ns tol e (last_index ns tol - e.start.index) e.start) refl f
      where
        go : (a : Answer Leg) → leg_from ns tol e (last_index ns tol - e.start.index) e.start ≡ a → Ok l ≡ (a >>= λ l. Ok (leg_put h l))
            → l.held.kept.count ≡ h.kept.count + (last_index ns tol - e.start.index)
        go (Err r) p g = let z : ◌≡◌ {A = ℕ} 0 1 = cc in absurd (omega arith)
        go (Ok leg) p g =
            let is : l ≡ leg_put h leg = cc in
            let few = leg_few ns tol e (last_index ns tol - e.start.index) e.start leg p in
            let o₂ : leg.over ≡ true = ap (λ (x : LegHeld). x.over) (sym is) ∙ o in
            ap (λ (x : LegHeld). x.held.kept.count) is ∙ put-counted h leg.points ∙ ap (λ (n : ℕ). h.kept.count + n) (few.all o₂)

-- ---- what the legs ask for

module _ (ns : List Float) (tol : Float) (e : Ends) (k : Walkable ns tol e) where
  pub edges : 1 ≤ last_vertex ns
  edges = omega (arith, k.end)

  module _ (front : CurveStation2) (at : at_vertex ns tol 0 ≡ Ok front) where
    pub front_on : front.index < last_vertex ns
    front_on = omega (arith, (front_ahead ns tol e front k at).1, edges)

    pub front_room : (w : Working) → w ≡ working_at ns front → (left count room : ℕ) → 2 * (count + e.end.index) ≤ room → Room ns e left w.station count room
    front_room w is left count room h = rw is (inr ((front_ahead ns tol e front k at).0, omega (arith, h, (front_ahead ns tol e front k at).1)))

  pub start_room : (w : Working) → w ≡ working_at ns e.start → (left : ℕ) → left ≡ last_index ns tol - e.start.index → (count : ℕ) → count ≡ 1 → (room : ℕ) → length ns ≤ room → Room ns e left w.station count room
  start_room w is left l count c room h = rw is (inl (omega (arith, l, c, h, last_most ns tol, k.points.least)))

  pub over_room : (h : Held) (l : LegHeld) → Ok l ≡ first ns tol e h → h.kept.count ≡ 1 → l.over ≡ true → wrap e ≡ true → (room : ℕ) → length ns ≤ room
      → 2 * (l.held.kept.count + 1 + e.end.index) ≤ room
  over_room h l f one o w room r = omega (arith, over-count ns tol e h l f o, one, r, k.order w, last_closed ns tol e k w, k.start)
