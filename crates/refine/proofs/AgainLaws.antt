-- Refining a list again of which no neighbouring pair would be refined: nothing changes. Assumes nothing.
use mathlib.Core.Path.{◌≡◌, refl, ◌∙◌}
use mathlib.Core.Bool.{Bool, false}
use mathlib.Core.List.{List, [], ◌∷◌, ◌++◌, append_assoc, append-nil}
use Rattle.std.specs.Prelude.{None, Ok}
use Prim.Native.Nat.{ℕ, suc, ◌+◌, ◌-◌, ◌≤◌, ◌<◌, min}
use native.Mathlib.Omega.{arith}
use borrow.Author.Tests.{le-ltb, lt-leb}
use lib.ListN.{length, length-append}
use lib.Ieee.{Float}
use Rattle.errors.specs.Lists.{last_of}
use Rattle.curve2.specs.Entry.{section_tests, section_entry, bad_count, bad_numbers, bad_tolerance, bad_general, finer_general, not_spaced, most_points}
use Rattle.curve2.proofs.Laws.{or_left, or_right, none_bad}
use Rattle.runs.specs.Run.{ended, final_of, under_limit}
use Rattle.runs.proofs.RunLaws.{whole_ends, whole_goes, whole_pays}
use Rattle.circles.specs.Trial.{trial}
use Rattle.inscribed.specs.Store.{slots, slots_within, circles_from, circles_of, stored, all_numbers, bad_circle, any_bad}
use Rattle.inscribed.specs.declared.Inscribed.{Inscribed}
use Rattle.inscribed.proofs.StoreLaws.{stored_length, circles_of-stored, stored_longer}
use Rattle.refine.specs.Machine.{refining, finished, with_room, after_trial, refine_move, measure, refine_step, refine_run}
use Rattle.refine.specs.Report.{ran, reported}
use Rattle.refine.specs.Refinement.{Offer, refine_entry, after_entry, refinement, refine_of}
use Rattle.refine.specs.Offers.{Offers, offers_entry, offers_run, after_offers_entry, refinements, refine_all_of}
use Rattle.refine.specs.Law.{Settled}
use Rattle.refine.specs.Again.{in_order, after_call, called_in_order}
use Rattle.refine.proofs.MoveLaws.{refine_falls}

-- what the entry tests of a run ask of its section and tolerances
pub record Tested (ns : List Float) (section_tol tol : Float) : Type 0 where
  pub count : bad_count most_points (length ns) ≡ false
  pub numbers : bad_numbers ns ≡ false
  pub tolerance : bad_tolerance section_tol ≡ false
  pub general : bad_general tol ≡ false
  pub finer : finer_general section_tol tol ≡ false
  pub spaced : not_spaced ns section_tol ≡ false

pub run_tested : (ns : List Float) (section_tol tol : Float) (number room state : Bool)
    → section_entry ns section_tol (record { number = number; tolerance = bad_general tol; finer = finer_general section_tol tol; room = room; state = state }) ≡ Ok tt → Tested ns section_tol tol
unfolding section_entry
run_tested ns section_tol tol number room state e =
    let none = none_bad (section_tests ns section_tol (record { number = number; tolerance = bad_general tol; finer = finer_general section_tol tol; room = room; state = state })) e in
    record {
      count = none.0;
      numbers = or_left (bad_numbers ns) _ none.1.0;
      tolerance = or_left (bad_tolerance section_tol) _ none.1.1.0;
      general = or_right (bad_tolerance section_tol) (bad_general tol) none.1.1.0;
      finer = none.1.1.1.0;
      spaced = none.1.1.1.1.1.1.0;
    }

-- ---- one circle offered, whose trial against the last adds nothing

-- how many units it takes where so many are accepted: none behind no circle
abbrev pub units_behind : ℕ → ℕ
units_behind n = min n 1

module _ (ns : List Float) (tol : Float) (room limit : ℕ) where
  first_offer : (b : Inscribed) (u : ℕ) → 0 < room → refine_run ns tol room (under_limit limit) [] (b ∷ []) u ≡ final_of (ended finished) (refining (b ∷ []) []) u
  unfolding refine_step refine_move
  first_offer b u h =
      whole_goes (refine_step ns tol room) (measure room) (refine_falls ns tol room) (under_limit limit) (refining [] (b ∷ [])) u (refining (b ∷ []) []) (rw (lt-leb room 0 h) refl)
      ∙ whole_ends (refine_step ns tol room) (measure room) (refine_falls ns tol room) (under_limit limit) (refining (b ∷ []) []) u finished refl

  next_offer : (c : Inscribed) (cs : List Inscribed) (b : Inscribed) (u : ℕ) → u < limit → trial ns tol (last_of c cs) b ≡ Ok None → suc (length cs) < room
      → refine_run ns tol room (under_limit limit) (c ∷ cs) (b ∷ []) u ≡ final_of (ended finished) (refining ((c ∷ cs) ++ (b ∷ [])) []) (suc u)
  unfolding refine_step refine_move after_trial with_room
  next_offer c cs b u l e h =
      whole_pays (refine_step ns tol room) (measure room) (refine_falls ns tol room) (under_limit limit) (refining (c ∷ cs) (b ∷ [])) u (refining ((c ∷ cs) ++ (b ∷ [])) [])
      (rw (e, lt-leb room (suc (length cs)) h) refl) (lt-leb limit u l)
      ∙ whole_ends (refine_step ns tol room) (measure room) (refine_falls ns tol room) (under_limit limit) (refining ((c ∷ cs) ++ (b ∷ [])) []) (suc u) finished refl

  -- a pair in the middle of a list that is settled
  settled_pair : (c : Inscribed) (cs : List Inscribed) (b : Inscribed) (es : List Inscribed) → Settled ns tol ((c ∷ cs) ++ (b ∷ es)) → trial ns tol (last_of c cs) b ≡ Ok None
  unfolding last_of
  settled_pair c [] b es s = s.0
  settled_pair c (d ∷ cs) b es s = settled_pair d cs b es s.1

  pub one_offer : (ds : List Inscribed) (b : Inscribed) (es : List Inscribed) (u : ℕ) → Settled ns tol (ds ++ (b ∷ es)) → length ds < room → u + units_behind (length ds) ≤ limit
      → refine_run ns tol room (under_limit limit) ds (b ∷ []) u ≡ final_of (ended finished) (refining (ds ++ (b ∷ [])) []) (u + units_behind (length ds))
  one_offer [] b es u s r h =
      let e : u + units_behind 0 ≡ u = omega arith in
      rw e (first_offer b u r)
  one_offer (d ∷ ds) b es u s r h =
      let e : u + units_behind (suc (length ds)) ≡ suc u = omega arith in
      rw e (next_offer d ds b u (omega (arith, h)) (settled_pair d ds b es s) r)

  -- all in order, by the run of a list: a unit for each but the first
  pub all_in_order : (es ds : List Inscribed) (u : ℕ) → Settled ns tol (ds ++ es) → length (ds ++ es) ≤ room → u ≡ length ds - 1 → length (ds ++ es) - 1 ≤ limit
      → offers_run ns tol room (under_limit limit) ds es u ≡ final_of (ended finished) (refining (ds ++ es) []) (length (ds ++ es) - 1)
  unfolding offers_run
  all_in_order [] ds u s r e h = rw (append-nil ds, e) refl
  all_in_order (b ∷ es) ds u s r e h =
      let same : (ds ++ (b ∷ [])) ++ es ≡ ds ++ (b ∷ es) = append_assoc ds (b ∷ []) es in
      let long = length-append ds (b ∷ es) in
      let next : u + units_behind (length ds) ≡ length (ds ++ (b ∷ [])) - 1 = omega (arith, e, length-append ds (b ∷ [])) in
      rw (one_offer ds b es u s (omega (arith, r, long)) (omega (arith, e, h, long)))
      (all_in_order es (ds ++ (b ∷ [])) (u + units_behind (length ds)) (rw same s) (rw same r) next (rw same h)
      ∙ rw same refl)

-- ---- of calls

bad_in : (cs : List Inscribed) (b : Inscribed) (es : List Inscribed) → any_bad (cs ++ (b ∷ es)) ≡ false → (any_bad cs ≡ false) × (bad_circle b ≡ false)
unfolding any_bad
bad_in [] b es h = (refl, or_left (bad_circle b) (any_bad es) h)
bad_in (c ∷ cs) b es h = let k = bad_in cs b es (or_right (bad_circle c) (any_bad (cs ++ (b ∷ es))) h) in (rw (or_left (bad_circle c) (any_bad (cs ++ (b ∷ es))) h, k.0) refl, k.1)

module _ (ns : List Float) (section_tol tol : Float) (ok : Tested ns section_tol tol) (old : List Float) (slot_limit : ℕ) where
  module _ (limit : ℕ) where
    abbrev offer_to : List Inscribed → Inscribed → Offer
    offer_to ds c = record { section = ns; section_tol = section_tol; tol = tol; store = stored ds old; count = length ds; slot_limit = slot_limit; circle = c }

    module _ (ds : List Inscribed) (b : Inscribed) (es : List Inscribed) (settled : Settled ns tol (ds ++ (b ∷ es))) (good : any_bad (ds ++ (b ∷ es)) ≡ false) (room : length (ds ++ (b ∷ es)) ≤ slots_within slot_limit old) (enough : units_behind (length (ds ++ (b ∷ es)) - 1) ≤ limit) where
      more : length ds < slots_within slot_limit old
      more = omega (arith, room, length-append ds (b ∷ es))

      room_is : slots_within slot_limit (stored ds old) ≡ slots_within slot_limit old
      room_is = rw (stored_length ds old (omega (arith, more))) refl

      enters : refine_entry (offer_to ds b) ≡ Ok tt
      unfolding refine_entry section_entry
      enters =
          let few : min (length ds) (slots_within slot_limit (stored ds old)) ≡ length ds = omega (arith, more, room_is) in
          let g = bad_in ds b es good in
          rw (ok.count, ok.numbers, few, circles_of-stored ds old, g.0, g.1, ok.tolerance, ok.general, ok.finer, le-ltb (slots_within slot_limit (stored ds old)) (length ds) (omega (arith, more, room_is)), ok.spaced) refl

      called : refine_of (offer_to ds b) limit ≡ ran (record { ending = ended finished; count = length (ds ++ (b ∷ [])); units = units_behind (length ds); store = stored (ds ++ (b ∷ [])) old })
      unfolding refinement after_entry reported
      called =
          let from_none : 0 + units_behind (length ds) ≡ units_behind (length ds) = omega arith in
          rw (enters, room_is, circles_of-stored ds old, one_offer ns tol (slots_within slot_limit old) limit ds b es 0 settled more (omega (arith, enough, length-append ds (b ∷ es))), stored_longer (ds ++ (b ∷ [])) ds old (omega (arith, length-append ds (b ∷ []))), from_none)
          refl

    in_turn : (es ds : List Inscribed) (u : ℕ) (circle : Inscribed) → Settled ns tol (ds ++ es) → any_bad (ds ++ es) ≡ false → length (ds ++ es) ≤ slots_within slot_limit old → units_behind (length (ds ++ es) - 1) ≤ limit → u ≡ length ds - 1
        → called_in_order (offer_to ds circle) limit es u ≡ in_order 0 (length (ds ++ es)) (length (ds ++ es) - 1) (stored (ds ++ es) old)
    unfolding called_in_order after_call
    in_turn [] ds u circle s g r h e = rw (append-nil ds, e) refl
    in_turn (b ∷ es) ds u circle s g r h e =
        let same : (ds ++ (b ∷ [])) ++ es ≡ ds ++ (b ∷ es) = append_assoc ds (b ∷ []) es in
        let next : u + units_behind (length ds) ≡ length (ds ++ (b ∷ [])) - 1 = omega (arith, e, length-append ds (b ∷ [])) in
        rw (called ds b es s g r h)
        (in_turn es (ds ++ (b ∷ [])) (u + units_behind (length ds)) b (rw same s) (rw same g) (rw same r) (rw same h) next
        ∙ rw same refl)

    -- each by a call of its own, to an empty list
    pub calls_again : (cs : List Inscribed) (circle : Inscribed) → Settled ns tol cs → any_bad cs ≡ false → length cs ≤ slots_within slot_limit old → units_behind (length cs - 1) ≤ limit
        → called_in_order (record { section = ns; section_tol = section_tol; tol = tol; store = old; count = 0; slot_limit = slot_limit; circle = circle }) limit cs 0 ≡ in_order 0 (length cs) (length cs - 1) (stored cs old)
    unfolding stored all_numbers
    calls_again cs circle s g r h = in_turn cs [] 0 circle s g r h (omega arith)

  -- all by one call, to an empty list
  module _ (list : List Float) (n limit : ℕ) (settled : Settled ns tol (circles_of list n)) (good : any_bad (circles_of list n) ≡ false)
      (room : n ≤ slots_within slot_limit old) (listed : n ≤ slots list) (long : length (circles_of list n) ≡ n) (enough : n - 1 ≤ limit) where
    abbrev offers : Offers
    offers = record { section = ns; section_tol = section_tol; tol = tol; store = old; count = 0; slot_limit = slot_limit; offered = list; offered_count = n }

    offers_enter : offers_entry offers ≡ Ok tt
    unfolding offers_entry section_entry any_bad circles_from
    offers_enter =
        let none : min 0 (slots_within slot_limit old) ≡ 0 = omega arith in
        let all : min n (slots list) ≡ n = omega (arith, listed) in
        rw (ok.count, ok.numbers, none, all, good, ok.tolerance, ok.general, ok.finer, le-ltb (slots_within slot_limit old) 0 (omega arith), le-ltb (slots list) n listed, ok.spaced) refl

    pub all_again : refine_all_of offers limit ≡ ran (record { ending = ended finished; count = n; units = n - 1; store = stored (circles_of list n) old })
    unfolding refinements after_offers_entry reported circles_from
    all_again =
        rw (offers_enter, all_in_order ns tol (slots_within slot_limit old) limit (circles_of list n) [] 0 settled (omega (arith, long, room)) refl (omega (arith, long, enough)), long)
        refl
