-- Two slot limits. A run with the smaller is that with the larger, or it ends in 15 with as many of the larger's first circles as there are slots. Assumes nothing.
use mathlib.Core.Path.{◌≡◌, refl, sym, ap, subst, ◌∙◌}
use mathlib.Core.Bool.{Bool, true, false, cond}
use mathlib.Core.List.{List, [], ◌∷◌, ◌++◌}
use mathlib.Core.Logic.{inl, inr}
use Rattle.std.specs.Prelude.{Option, Some, None, Ok, Err}
use Prim.Native.Nat.{ℕ, suc, ◌≤◌, ◌<◌}
use native.Mathlib.Omega.{arith}
use borrow.Author.Tests.{leb-true, leb-false}
use lib.Dec.{leb}
use lib.ListN.{length, take, length-append}
use lib.Seq.{take_at}
use lib.Ieee.{Float}
use Rattle.errors.specs.Answer.{Answer}
use Rattle.errors.specs.Lists.{last_of}
use Rattle.runs.specs.Run.{Move, ends, goes, pays, ended, Final, whole}
use Rattle.runs.proofs.RunLaws.{Falls}
use Rattle.runs.proofs.LimitLaws.{Grows}
use Rattle.runs.proofs.RoomLaws.{Parts, alike, parts_free, parts_paid, Compared, whole_compared}
use Rattle.circles.specs.Trial.{trial}
use Rattle.inscribed.specs.declared.Inscribed.{Inscribed}
use Rattle.refine.specs.Machine.{most_waiting, State, refining, advancing, stopped, circles_in, End, with_room, after_room, after_trial, refine_move, measure, refine_step, refine_run}
use Rattle.refine.proofs.MachineLaws.{Part, part_chain, refine_grows}
use Rattle.refine.proofs.MoveLaws.{no_goes, no_pays, goes_no_pays, pays_no_goes, refine_falls}
use Rattle.errors.specs.declared.Refusal.TheVariants.{StackFull, StoreFull}

module _ (m : ℕ) where
  -- no more circles than the smaller limit, and more
  abbrev pub HasRoom : State → Type 0
  HasRoom s = length (circles_in s) ≤ m

  abbrev pub HasMore : State → Type 0
  HasMore s = m < length (circles_in s)

  -- as many circles as the smaller limit, the first ones of the other's
  abbrev pub First : State → State → Type 0
  First v t = (length (circles_in v) ≡ m) × Part v t

  pub grows_more : (s t : State) → Part s t → HasMore s → HasMore t
  grows_more s t p h = omega (arith, h, ap length p.1, length-append (circles_in s) p.0)

  pub grows_first : (v s t : State) → Part s t → First v s → First v t
  grows_first v s t p h = (h.0, part_chain v s t h.1 p)

  -- two machines that make a refinement's moves while circles wait, and stop with a refusal
  module _ (ns : List Float) (tol : Float) (more : ℕ) (larger : m ≤ more) (small large : State → Move State End)
      (small-moves : (cs : List Inscribed) (b : Inscribed) (ws : List Inscribed) → small (refining cs (b ∷ ws)) ≡ refine_move ns tol m cs b ws)
      (large-moves : (cs : List Inscribed) (b : Inscribed) (ws : List Inscribed) → large (refining cs (b ∷ ws)) ≡ refine_move ns tol more cs b ws)
      (small-stops : (cs : List Inscribed) → small (stopped cs StoreFull) ≡ ends (Err StoreFull)) where
    abbrev pub MoveParts : State → Type 0
    MoveParts s = Parts small large (Err StoreFull) HasRoom HasMore First s

    pub move_parts : (cs : List Inscribed) (b : Inscribed) (ws : List Inscribed) → length cs ≤ m → MoveParts (refining cs (b ∷ ws))
    unfolding refine_move after_trial with_room
    move_parts [] b ws h = go (leb m 0) (leb more 0) refl refl (leb-true m 0) (leb-false m 0) (leb-true more 0) (leb-false more 0)
      where
        s₀ : State
        s₀ = refining [] (b ∷ ws)

        first : Bool → Move State End
        first x = cond x (ends (Err StoreFull)) (goes (refining (b ∷ []) ws))

        at-small : (x : Bool) → leb m 0 ≡ x → small s₀ ≡ first x
        at-small x p = small-moves [] b ws ∙ ap first p

        at-large : (x : Bool) → leb more 0 ≡ x → large s₀ ≡ first x
        at-large x p = large-moves [] b ws ∙ ap first p

        go : (x y : Bool) → leb m 0 ≡ x → leb more 0 ≡ y → (x ≡ true → m ≤ 0) → (x ≡ false → 0 < m) → (y ≡ true → more ≤ 0) → (y ≡ false → 0 < more) → MoveParts s₀
        go true true p q a₁ a₂ b₁ b₂ = alike (at-small true p ∙ sym (at-large true q)) (λ t e. no_goes (sym (at-large true q) ∙ e)) (λ t e. no_pays (sym (at-large true q) ∙ e))
        go true false p q a₁ a₂ b₁ b₂ = parts_free (refining (b ∷ []) ws) (at-large false q) (at-small true p) (omega (arith, a₁ refl)) (omega (arith, a₁ refl), (b ∷ [], refl))
        go false false p q a₁ a₂ b₁ b₂ =
            alike (at-small false p ∙ sym (at-large false q))
            (λ t e. let k : ◌≡◌ {A = Move State End} (goes (refining (b ∷ []) ws)) (goes t) = sym (at-large false q) ∙ e in let is : t ≡ refining (b ∷ []) ws = cc in rw is (omega (arith, a₂ refl)))
            (λ t e. goes_no_pays (sym (at-large false q) ∙ e))
        go false true p q a₁ a₂ b₁ b₂ = absurd (omega (arith, a₂ refl, b₁ refl, larger))
    move_parts (c ∷ cs) b ws h = tried (trial ns tol (last_of c cs) b) refl
      where
        s₀ : State
        s₀ = refining (c ∷ cs) (b ∷ ws)

        at-small : (r : Answer (Option Inscribed)) → trial ns tol (last_of c cs) b ≡ r → small s₀ ≡ pays (after_trial m (c ∷ cs) b ws r)
        at-small r e = small-moves (c ∷ cs) b ws ∙ ap (λ (x : Answer (Option Inscribed)). pays (after_trial m (c ∷ cs) b ws x)) e

        at-large : (r : Answer (Option Inscribed)) → trial ns tol (last_of c cs) b ≡ r → large s₀ ≡ pays (after_trial more (c ∷ cs) b ws r)
        at-large r e = large-moves (c ∷ cs) b ws ∙ ap (λ (x : Answer (Option Inscribed)). pays (after_trial more (c ∷ cs) b ws x)) e

        -- the same state for both
        same : (r : Answer (Option Inscribed)) → trial ns tol (last_of c cs) b ≡ r → after_trial m (c ∷ cs) b ws r ≡ after_trial more (c ∷ cs) b ws r → HasRoom (after_trial more (c ∷ cs) b ws r) → MoveParts s₀
        same r e p w =
            alike (at-small r e ∙ ap (λ (t : State). pays t) p ∙ sym (at-large r e))
            (λ t k. pays_no_goes (sym (at-large r e) ∙ k))
            (λ t k. let z : ◌≡◌ {A = Move State End} (pays (after_trial more (c ∷ cs) b ws r)) (pays t) = sym (at-large r e) ∙ k in let is : t ≡ after_trial more (c ∷ cs) b ws r = cc in rw is w)

        tried : (r : Answer (Option Inscribed)) → trial ns tol (last_of c cs) b ≡ r → MoveParts s₀
        tried (Err n) e = same (Err n) e refl h
        tried (Ok (Some d)) e = same (Ok (Some d)) e refl (go (leb most_waiting (suc (length ws))))
          where
            go : (x : Bool) → HasRoom (after_room (c ∷ cs) b ws (cond x (Err StackFull) (Ok (Some d))))
            go true = h
            go false = h
        tried (Ok None) e =
            go (leb m (suc (length cs))) (leb more (suc (length cs))) refl refl (leb-true m (suc (length cs))) (leb-false m (suc (length cs))) (leb-true more (suc (length cs))) (leb-false more (suc (length cs)))
          where
            n : ℕ
            n = suc (length cs)

            after : Bool → State
            after x = after_room (c ∷ cs) b ws (cond x (Err StoreFull) (Ok None))

            go : (x y : Bool) → leb m n ≡ x → leb more n ≡ y → (x ≡ true → m ≤ n) → (x ≡ false → n < m) → (y ≡ true → more ≤ n) → (y ≡ false → n < more) → MoveParts s₀
            go true true p q a₁ a₂ b₁ b₂ = same (Ok None) e (ap after (p ∙ sym q)) (let W : Bool → Type 0 = λ (x : Bool). HasRoom (after x) in subst W (sym q) h)
            go true false p q a₁ a₂ b₁ b₂ =
                parts_paid (refining ((c ∷ cs) ++ (b ∷ [])) ws) (stopped (c ∷ cs) StoreFull)
                (at-large (Ok None) e ∙ ap (λ (x : Bool). pays (after x)) q) (at-small (Ok None) e ∙ ap (λ (x : Bool). pays (after x)) p) (small-stops (c ∷ cs))
                (omega (arith, a₁ refl, length-append (c ∷ cs) (b ∷ []))) (omega (arith, a₁ refl, h), (b ∷ [], refl))
            go false false p q a₁ a₂ b₁ b₂ = same (Ok None) e (ap after (p ∙ sym q)) (let W : Bool → Type 0 = λ (x : Bool). HasRoom (after x) in subst W (sym q) (omega (arith, a₂ refl, length-append (c ∷ cs) (b ∷ []))))
            go false true p q a₁ a₂ b₁ b₂ = absurd (omega (arith, a₂ refl, b₁ refl, larger))

-- "where the larger run leaves no more circles than the smaller limit, both runs are alike in all; else the smaller ends in 15 with as many of the larger's first circles as its limit"
pub record TwoSlotLimits (m : ℕ) (smaller larger : Final State End) : Type 0 where
  pub alike_in_all : length (circles_in larger.state) ≤ m → smaller ≡ larger
  pub is_full : m < length (circles_in larger.state) → smaller.ending ≡ ended (Err StoreFull)
  pub first_circles : m < length (circles_in larger.state) → circles_in smaller.state ≡ take m (circles_in larger.state)
  pub sooner : smaller.units ≤ larger.units

-- a measure is larger where there are more slots
pub measure_grows : (m more : ℕ) → m ≤ more → (s : State) → measure m s ≤ measure more s
unfolding measure
measure_grows m more h (refining cs ws) = omega arith
measure_grows m more h (advancing cs k) = omega arith
measure_grows m more h (stopped cs r) = omega arith

module _ (m more : ℕ) (larger : m ≤ more) (small large : State → Move State End) (small-falls : Falls small (measure m)) (falls : Falls large (measure more)) (grows : Grows large Part)
    (parts : (s : State) → HasRoom m s → Parts small large (Err StoreFull) (HasRoom m) (HasMore m) (First m) s) (full : ℕ → Bool) (s : State) (u : ℕ) (h : HasRoom m s) where
  abbrev o : Final State End
  o = whole small (measure m) full s u

  abbrev p : Final State End
  p = whole large (measure more) full s u

  told : Compared small large (Err StoreFull) (HasRoom m) (HasMore m) (First m) o p → TwoSlotLimits m o p
  told (inl k) = record { alike_in_all = λ b. k.0; is_full = λ b. absurd (omega (arith, b, k.1)); first_circles = λ b. absurd (omega (arith, b, k.1)); sooner = rw k.0 (omega arith) }
  told (inr k) = record {
    alike_in_all = λ b. absurd (omega (arith, b, k.has_more));
    is_full = λ b. k.full;
    first_circles = λ b. rw k.first.1.1 (sym (take_at (circles_in o.state) k.first.1.0 m k.first.0));
    sooner = k.sooner;
  }

  pub two_slot_limits : TwoSlotLimits m o p
  two_slot_limits =
      told
      (whole_compared small large (Err StoreFull) (HasRoom m) (HasMore m) (First m) (measure more) falls full parts
      (λ a b q. grows_more m a b (grows.goes_on a b q)) (λ a b q. grows_more m a b (grows.pays_on a b q)) (λ v a b q. grows_first m v a b (grows.goes_on a b q)) (λ v a b q. grows_first m v a b (grows.pays_on a b q))
      (measure m) small-falls s u (measure_grows m more larger s) h)

-- ---- two refinements

module _ (ns : List Float) (tol : Float) (m more : ℕ) (larger : m ≤ more) where
  refine_parts : (s : State) → HasRoom m s → Parts (refine_step ns tol m) (refine_step ns tol more) (Err StoreFull) (HasRoom m) (HasMore m) (First m) s
  unfolding refine_step
  refine_parts (refining cs []) h = alike refl (λ t p. no_goes p) (λ t p. no_pays p)
  refine_parts (refining cs (b ∷ ws)) h = move_parts m ns tol more larger (refine_step ns tol m) (refine_step ns tol more) (λ x y z. refl) (λ x y z. refl) (λ x. refl) cs b ws h
  refine_parts (advancing cs k) h = alike refl (λ t p. no_goes p) (λ t p. no_pays p)
  refine_parts (stopped cs r) h = alike refl (λ t p. no_goes p) (λ t p. no_pays p)

  pub two_refinements : (full : ℕ → Bool) (cs ws : List Inscribed) (u : ℕ) → length cs ≤ m → TwoSlotLimits m (refine_run ns tol m full cs ws u) (refine_run ns tol more full cs ws u)
  two_refinements full cs ws u h =
      two_slot_limits m more larger (refine_step ns tol m) (refine_step ns tol more) (refine_falls ns tol m) (refine_falls ns tol more) (refine_grows ns tol more) refine_parts full (refining cs ws) u h
