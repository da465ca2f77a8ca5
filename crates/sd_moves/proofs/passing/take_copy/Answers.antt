use Rattle.std.proofs.Common.{◌≡◌, ◌≢◌, ℕ, ◌-◌, ◌≤◌, List, refl, sym, ap, ap₂, ◌∙◌, subst, arith, slice_set, ⊎_elim}
use Rattle.std.proofs.Math.ListN.{get_or-map}
use Rattle.std.specs.Box.{box_value}
use Rattle.std.specs.Global.{Box}
use Rattle.std.specs.Prelude.{Option, None, Some, IsSome, OnErr, Result, Ok, Err, option_map}
use Rattle.std.proofs.lemmas.Bool.{cases_eq}
use Rattle.sd_base.specs.declared.refusal.Memory.{Memory}
use Rattle.sd_page.specs.Page.{Page}
use Rattle.sd_pagelock.specs.Directory.{DirectoryState, asks_at, entry_at, moving_image_at}
use Rattle.sd_pagelock.specs.Directory as directory
use Rattle.sd_pagelock.specs.Places.{PageEntry}
use Rattle.sd_pagelock.specs.Rows.{taken}
use Rattle.sd_pagelock.proofs.Uses.{receiver-passes}
use Rattle.sd_pool.specs.Buffers as buffers
use Rattle.sd_pool.specs.Buffers.{Buffers, with_page}
use Rattle.sd_state.specs.Complexes.{parts, unboxed}
use Rattle.sd_state.specs.Good.{Good}
use Rattle.sd_state.specs.Laws.{newest_of}
use Rattle.sd_state.specs.Locking.{IsSet, with_place}
use Rattle.sd_state.specs.Parts.{Parts, pool_at}
use Rattle.sd_state.proofs.Answered.{same-set}
use Rattle.sd_state.proofs.Locks.{pool-lent}
use Rattle.sd_moves.specs.Passing.{IsOnWay}
use Rattle.sd_moves.specs.Places.{IsAsked}
use Rattle.sd_moves.proofs.Copies.{arrived-is, arrived-there, way-unboxed}
use Rattle.sd_moves.proofs.Passed.{set-from, taken-good}
use Rattle.sd_moves.proofs.Placed.{asked-good, asked-unboxed}
use Rattle.sd_moves.proofs.passing.take_copy.Goals as goal

none-there : (o : Option (Box Page)) → IsSome o → o ≡ None → ⊥
none-there None is e = cc
none-there (Some box) is e = cc

pub arrived-requires : goal.arrived-requires
arrived-requires g c =
    let old = c.args.c.now in
    let good = c.requires.good in
    record {
      there = none-there (moving_image_at old.directory c.args.p)
          (arrived-there (g.G.Rig.seen old.rig) (g.G.Rig.leaves old.rig) good.0 c.args.p old good.1 good.2
          (receiver-passes c.args.i (entry_at (parts old).directory c.args.p) c.requires.receiver) (moving_image_at old.directory c.args.p) refl);
    }

after-error : (r : Result (Unit {0}) Memory) (P : Type 0) → P → OnErr r P
after-error (Ok x) P p = tt
after-error (Err e) P p = p

-- what is on its way of each page stays
kept : (old new : ℕ → Option (Box Page)) (p : ℕ) → new p ≡ old p → ((q : ℕ) → q ≢ p → new q ≡ old q) → (q : ℕ) → new q ≡ old q
kept old new p here others q = ⊎_elim
    (λ e. subst (λ (k : ℕ). new k ≡ old k) (sym e) here)
    (λ ne. others q ne)
    (cases_eq q p)

pub returns-in_err-image-clause-asks : goal.returns-in_err-image-clause-asks
returns-in_err-image-clause-asks g c =
    let old = c.args.c.now.directory in
    let arrive = c.arrived.ensures in
    after-error c.from_residual.result _
    (asked-unboxed old c.arrived.new.directory c.args.p (asks_at old c.args.p) arrive.places arrive.rec_lsns
    (kept (moving_image_at old) (moving_image_at c.arrived.new.directory) c.args.p c.in_err-image.ensures.stays arrive.others)
    (arrive.asks c.args.p) (λ q ne. arrive.asks q))

pub returns-in_err-image-clause-good : goal.returns-in_err-image-clause-good
returns-in_err-image-clause-good g c pend m good =
    let p : Parts = parts c.args.c.now in
    let old = c.args.c.now.directory in
    let arrive = c.arrived.ensures in
    let places : DirectoryState Page = unboxed c.arrived.new.directory in
    let asked : IsAsked c.args.p (asks_at old c.args.p) p.directory places =
    asked-unboxed old c.arrived.new.directory c.args.p (asks_at old c.args.p) arrive.places arrive.rec_lsns
    (kept (moving_image_at old) (moving_image_at c.arrived.new.directory) c.args.p c.in_err-image.ensures.stays arrive.others)
    (arrive.asks c.args.p) (λ q ne. arrive.asks q) in
    asked-good c.args.p (g.G.Rig.seen c.args.c.now.rig) (g.G.Rig.leaves c.args.c.now.rig) pend p m good places
    (asks_at old c.args.p) asked (good.asks c.args.p)

-- what was on its way of each page is on its way again
back : (old mid new : ℕ → Option (Box Page)) (p : ℕ) (image : Box Page) → ((q : ℕ) → q ≢ p → mid q ≡ old q)
    → ((q : ℕ) → q ≢ p → new q ≡ mid q) → new p ≡ Some image → old p ≡ Some image → (q : ℕ) → new q ≡ old q
back old mid new p image left sent here was q = ⊎_elim
    (λ e. subst (λ (k : ℕ). new k ≡ old k) (sym e) (here ∙ sym was))
    (λ ne. sent q ne ∙ left q ne)
    (cases_eq q p)

pub returns-in-Err-clause-asks : goal.returns-in-Err-clause-asks
returns-in-Err-clause-asks g c =
    let old = c.args.c.now.directory in
    let arrive = c.arrived.ensures in
    let send = c.send.ensures in
    asked-unboxed old c.send.new.self c.args.p (asks_at old c.args.p)
    (λ q. send.places q ∙ arrive.places q) (λ q. send.rec_lsns q ∙ arrive.rec_lsns q)
    (back (moving_image_at old) (moving_image_at c.arrived.new.directory) (moving_image_at c.send.new.self) c.args.p c.in-Err.image
    arrive.others send.others send.here
    (c.in_ok-image.ensures.value ∙ ap (λ (b : Box Page). Some b) (sym c.in-Err.ensures.back)))
    (send.asks c.args.p ∙ arrive.asks c.args.p) (λ q ne. send.asks q ∙ arrive.asks q)

pub returns-in-Err-clause-good : goal.returns-in-Err-clause-good
returns-in-Err-clause-good g c pend m good =
    let p : Parts = parts c.args.c.now in
    let old = c.args.c.now.directory in
    let arrive = c.arrived.ensures in
    let send = c.send.ensures in
    let places : DirectoryState Page = unboxed c.send.new.self in
    let asked : IsAsked c.args.p (asks_at old c.args.p) p.directory places =
    asked-unboxed old c.send.new.self c.args.p (asks_at old c.args.p)
    (λ q. send.places q ∙ arrive.places q) (λ q. send.rec_lsns q ∙ arrive.rec_lsns q)
    (back (moving_image_at old) (moving_image_at c.arrived.new.directory) (moving_image_at c.send.new.self) c.args.p c.in-Err.image
    arrive.others send.others send.here
    (c.in_ok-image.ensures.value ∙ ap (λ (b : Box Page). Some b) (sym c.in-Err.ensures.back)))
    (send.asks c.args.p ∙ arrive.asks c.args.p) (λ q ne. send.asks q ∙ arrive.asks q) in
    subst (λ (pools : List Buffers). Good (g.G.Rig.seen c.args.c.now.rig) (g.G.Rig.leaves c.args.c.now.rig) pend
    (record p { pools = pools; directory = places }) m)
    (sym (same-set p.pools (c.get.result - 1) c.index_mut.result.now c.put.new.self c.index_mut.ensures.value c.in-Err.ensures.stays))
    (asked-good c.args.p (g.G.Rig.seen c.args.c.now.rig) (g.G.Rig.leaves c.args.c.now.rig) pend p m good places
    (asks_at old c.args.p) asked (good.asks c.args.p))

pub returns-clause-moving : goal.returns-clause-moving
returns-clause-moving g c = way-unboxed c.args.p None c.args.c.now.directory c.set.new.self
    (ap (option_map box_value) (c.set.ensures.images c.args.p ∙ c.in_ok-image.ensures.here))
    (λ q ne. c.set.ensures.images q ∙ c.arrived.ensures.others q ne)

pub returns-clause-parts : goal.returns-clause-parts
returns-clause-parts g c =
    let old = c.args.c.now in
    let p : Parts = parts old in
    let i : ℕ = c.args.i in
    let good = c.requires.good in
    let low : 1 ≤ i = omega (arith, c.get.ensures.value, c.get.ensures.low) in
    let high : i ≤ 8 = omega (arith, c.get.ensures.value, c.get.ensures.high) in
    let place : c.get.result - 1 ≡ i - 1 = ap (λ n. n - 1) c.get.ensures.value in
    let lent : pool_at p i ≡ c.index_mut.result.now =
    pool-lent p i (c.get.result - 1) c.index_mut.result.now low high good.2.shape.pools place c.index_mut.ensures.value in
    let newest : Page = newest_of (g.G.Rig.seen old.rig) (g.G.Rig.leaves old.rig) p c.args.p in
    let image : c.in_ok-image.image.value ≡ newest =
    arrived-is (g.G.Rig.seen old.rig) (g.G.Rig.leaves old.rig) good.0 c.args.p old good.1 good.2
    (receiver-passes i (entry_at p.directory c.args.p) c.requires.receiver) (moving_image_at old.directory c.args.p) refl
    c.in_ok-image.image c.in_ok-image.ensures.value in
    let is : c.put.new.self ≡ with_page (pool_at p i) c.args.p newest =
    c.in-Ok.ensures.ok ∙ ap₂ (λ (b : Buffers) (x : Page). with_page b c.args.p x) (sym lent) image in
    let places : DirectoryState Page = unboxed c.set.new.self in
    ap (λ (n : ℕ). record p { pools = slice_set p.pools n c.put.new.self; directory = places }) place
    ∙ ap (λ (b : Buffers). with_place i b places p) is

pub returns-clause-good : goal.returns-clause-good
returns-clause-good g c pend m good =
    let p : Parts = parts c.args.c.now in
    let i : ℕ = c.args.i in
    let seen = g.G.Rig.seen c.args.c.now.rig in
    let leaves = g.G.Rig.leaves c.args.c.now.rig in
    let low : 1 ≤ i = omega (arith, c.get.ensures.value, c.get.ensures.low) in
    let high : i ≤ 8 = omega (arith, c.get.ensures.value, c.get.ensures.high) in
    let place : c.get.result - 1 ≡ i - 1 = ap (λ n. n - 1) c.get.ensures.value in
    let lent : pool_at p i ≡ c.index_mut.result.now =
    pool-lent p i (c.get.result - 1) c.index_mut.result.now low high good.shape.pools place c.index_mut.ensures.value in
    let places : DirectoryState Page = unboxed c.set.new.self in
    let moves = c.set.ensures in
    let arrive = c.arrived.ensures in
    let set : IsSet c.args.p (taken (entry_at p.directory c.args.p)) None p.directory places =
    subst (λ (e : PageEntry). IsSet c.args.p e None p.directory places)
    (c.taken-taken.ensures ∙ ap taken c.entry-place.ensures)
    (set-from c.args.p _ None p.directory (unboxed c.arrived.new.directory) places arrive.places arrive.rec_lsns arrive.asks
    (record {
      entry = moves.here;
      rec_lsn = moves.rec_lsn;
      asks = moves.asks;
      others = moves.others;
      other_rec_lsns = moves.other_rec_lsns;
      other_asks = moves.other_asks;
    })) in
    let way : IsOnWay c.args.p None p.directory places = way-unboxed c.args.p None c.args.c.now.directory c.set.new.self
    (ap (option_map box_value) (moves.images c.args.p ∙ c.in_ok-image.ensures.here)) (λ q ne. moves.images q ∙ arrive.others q ne) in
    let comes : buffers.image_at c.put.new.self c.args.p ≡ directory.moving_image_at p.directory c.args.p =
    c.in-Ok.ensures.there ∙ ap (option_map box_value) (sym c.in_ok-image.ensures.value)
    ∙ sym (get_or-map (option_map box_value) c.args.c.now.directory.images c.args.p None) in
    subst (λ (n : ℕ). Good seen leaves pend (record p { pools = slice_set p.pools n c.put.new.self; directory = places }) m)
    (sym place)
    (taken-good c.args.p i c.put.new.self seen leaves pend p m low high good comes
    (λ q ne. c.put.ensures.others q ne ∙ ap (λ (b : Buffers). buffers.image_at b q) (sym lent)) places set way
    c.requires.idle (c.keeps.ensures.formed c.args.p) c.requires.receiver)
