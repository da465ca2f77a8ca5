-- The instances that fall, one after another, and the parts that a fall leaves. For the falls of src/crash.rt.
use Rattle.std.proofs.Common.{◌≡◌, ◌≢◌, ⊎_elim, ℕ, zero, suc, ◌+◌, ◌-◌, ◌^◌, ◌<◌, ◌≤◌, Bool, true, false, cond, eqb, leb, ◌&&◌, ◌||◌, refl, sym, ap, ap₂, ◌∙◌, subst, arith, ne_eqb}
use Rattle.std.specs.Prelude.{max, min}
use Rattle.std.proofs.lemmas.Bool.{cases_eq, le-leb, leb-true}
use Rattle.std.proofs.lemmas.Bool.Decides.{leb_tells}
use Rattle.std.proofs.lemmas.List.{get_or-set_other, get_or-set_same, get_or_past, length-set}
use Rattle.sd_base.specs.declared.place.Status.{Status}
use Rattle.sd_base.specs.declared.place.Status.TheVariants as S
use Rattle.sd_txn.specs.Owing.{owed_of}
use Rattle.sd_txn.specs.Transactions.{Transactions}
use Rattle.sd_state.specs.Forcing.{owed_as}
use Rattle.sd_state.specs.Parts.{IsShape, Parts, is_loose, log_at, owed_at, status_at, txns_at}
use Rattle.sd_state.proofs.Items.{item-kept, item-set}
use Rattle.sd_log.specs.Logs.{has_tail}
use Rattle.sd_moves.specs.Falling.{GoesDown, HaveFallen, downed, falls_at, falls_with, fell_at, owed_unsettled, unsettles}

above : (a b : ℕ) → b < a → leb a b ≡ false
above a b lt = ⊎_elim (λ e. absurd (let le = e.1 in omega (arith, le, lt))) (λ e. e.0) (leb_tells a b)

below : (a b : ℕ) → leb a b ≡ false → b < a
below a b is = ⊎_elim (λ e. let clash : true ≡ false = sym e.0 ∙ is in absurd (cc)) (λ e. e.1) (leb_tells a b)

-- nobody falls that has no number
nobody : (i : ℕ) (c : Parts) → 1 ≤ i → falls_at i c 0 ≡ false
nobody i c low = ap (λ (b : Bool). cond b true false) (ne_eqb i 0 (λ e. omega (arith, low, e)))

pub none-fallen : (i : ℕ) (c : Parts) → 1 ≤ i → IsShape c → HaveFallen i 0 c c
none-fallen i c low shape = record {
  same = refl;
  each = each;
  statuses = shape.statuses;
  owed = shape.owed;
  loose = shape.loose;
}
  where
    stays : (j : ℕ) (b : Bool) → b ≡ false → GoesDown b i j c c
    stays j b e = subst (λ (b : Bool). GoesDown b i j c c) (sym e) (record { status = refl; loose = refl; owed = refl })

    each : (j : ℕ) → GoesDown (leb j 0 && falls_at i c j) i j c c
    each zero = stays 0 (leb 0 0 && falls_at i c 0) (ap (λ (b : Bool). b && falls_at i c 0) (le-leb 0 0 (omega arith)) ∙ nobody i c low)
    each (suc j) = stays (suc j) (leb (suc j) 0 && falls_at i c (suc j))
        (ap (λ (b : Bool). b && falls_at i c (suc j)) (above (suc j) 0 (omega arith)))

-- ---- one more

module _ (i n : ℕ) (c x : Parts) (few : n < 8) (h : HaveFallen i n c x) where
  abbrev j : ℕ
  j = n + 1

  abbrev next : Parts
  next = fell_at i j x

  -- it hasn't fallen yet
  untouched : GoesDown false i j c x
  untouched = subst (λ (b : Bool). GoesDown b i j c x) (ap (λ (b : Bool). b && falls_at i c j) (above j n (omega arith))) (h.each j)

  txns-same : txns_at x j ≡ txns_at c j
  txns-same = ap (λ (p : Parts). txns_at p j) h.same

  falls-same : falls_at i x j ≡ falls_at i c j
  falls-same = ap (falls_with i j) untouched.status

  unsettles-same : unsettles i x j ≡ unsettles i c j
  unsettles-same = ap (λ (p : Parts). eqb i j || has_tail (log_at p j)) h.same

  owed-same : owed_unsettled x j ≡ owed_unsettled c j
  owed-same = ap₂ (λ (b : Bool) (n : ℕ). cond b n (max n (owed_as (status_at x j) (min (owed_of (txns_at x j)) (2 ^ 64 - 1)) n))) untouched.loose untouched.owed
      ∙ ap₂ (λ (s : Status) (told : ℕ). cond (is_loose c j) (owed_at c j) (max (owed_at c j) (owed_as s told (owed_at c j)))) untouched.status
      (ap (λ (tb : Transactions). min (owed_of tb) (2 ^ 64 - 1)) txns-same)

  -- ---- where it falls

  down-here : (b : Bool) → b ≡ unsettles i c j → GoesDown true i j c (downed b j x)
  down-here true is = record {
    status = item-set S.Closed x.statuses j S.Down (omega arith) (omega (arith, few)) h.statuses;
    loose = get_or-set_same x.loose j true true (let nine = h.loose in omega (arith, few, nine))
        ∙ ap (λ (b : Bool). cond b true (is_loose c j)) is;
    owed = item-set 0 x.owed j (owed_unsettled x j) (omega arith) (omega (arith, few)) h.owed ∙ owed-same
        ∙ ap (λ (b : Bool). cond b (owed_unsettled c j) (owed_at c j)) is;
  }
  down-here false is = record {
    status = item-set S.Closed x.statuses j S.Down (omega arith) (omega (arith, few)) h.statuses;
    loose = untouched.loose ∙ ap (λ (b : Bool). cond b true (is_loose c j)) is;
    owed = untouched.owed ∙ ap (λ (b : Bool). cond b (owed_unsettled c j) (owed_at c j)) is;
  }

  down-else : (d b : Bool) (k : ℕ) → k ≢ j → GoesDown b i k c x → GoesDown b i k c (downed d j x)
  down-else true b k ne g = record {
    status = item-kept S.Closed x.statuses j S.Down (omega arith) k ne ∙ g.status;
    loose = get_or-set_other x.loose j k true true ne ∙ g.loose;
    owed = item-kept 0 x.owed j (owed_unsettled x j) (omega arith) k ne ∙ g.owed;
  }
  down-else false b k ne g = record {
    status = item-kept S.Closed x.statuses j S.Down (omega arith) k ne ∙ g.status;
    loose = g.loose;
    owed = g.owed;
  }

  -- who isn't this one is among the first ones as before
  leb-other : (k : ℕ) → k ≢ j → leb k j ≡ leb k n
  leb-other k ne = by (leb k n) refl
    where
      by : (b : Bool) → leb k n ≡ b → leb k j ≡ b
      by true is = le-leb k j (let le = leb-true k n is in omega (arith, le))
      by false is = above k j (let lt = below k n is in omega (arith, lt, ne))

  pub fallen-else : (y : Parts) → ((b : Bool) (k : ℕ) → k ≢ j → GoesDown b i k c x → GoesDown b i k c y)
      → GoesDown (falls_at i c j) i j c y → (k : ℕ) → GoesDown (leb k j && falls_at i c k) i k c y
  fallen-else y others here k = ⊎_elim
      (λ e. subst (λ (b : Bool). GoesDown (b && falls_at i c k) i k c y) (sym (le-leb k j (omega (arith, e))))
      (subst (λ (z : ℕ). GoesDown (falls_at i c z) i z c y) (sym e) here))
      (λ ne. subst (λ (b : Bool). GoesDown (b && falls_at i c k) i k c y) (sym (leb-other k ne)) (others (leb k n && falls_at i c k) k ne (h.each k)))
      (cases_eq k j)

  pub one-fallen : HaveFallen i j c next
  one-fallen = by (falls_at i x j) falls-same
    where
      marks : (d : Bool) → d ≡ unsettles i c j → true ≡ falls_at i c j → HaveFallen i j c (downed d j x)
      marks true loose is = record {
        same = ap (λ (p : Parts). record p {
          statuses = (downed true j x).statuses;
          owed = (downed true j x).owed;
          loose = (downed true j x).loose;
        }) h.same;
        each = fallen-else (downed true j x) (down-else true) (subst (λ (b : Bool). GoesDown b i j c (downed true j x)) is (down-here true loose));
        statuses = length-set x.statuses (j - 1) S.Down ∙ h.statuses;
        owed = length-set x.owed (j - 1) (owed_unsettled x j) ∙ h.owed;
        loose = length-set x.loose j true ∙ h.loose;
      }
      marks false loose is = record {
        same = ap (λ (p : Parts). record p { statuses = (downed false j x).statuses; owed = x.owed; loose = x.loose }) h.same;
        each = fallen-else (downed false j x) (down-else false) (subst (λ (b : Bool). GoesDown b i j c (downed false j x)) is (down-here false loose));
        statuses = length-set x.statuses (j - 1) S.Down ∙ h.statuses;
        owed = h.owed;
        loose = h.loose;
      }

      by : (b : Bool) → b ≡ falls_at i c j → HaveFallen i j c (cond {A = Parts} b (downed (unsettles i x j) j x) x)
      by true is = marks (unsettles i x j) unsettles-same is
      by false is = record {
        same = h.same;
        each = fallen-else x (λ b k ne g. g) (subst (λ (b : Bool). GoesDown b i j c x) is untouched);
        statuses = h.statuses;
        owed = h.owed;
        loose = h.loose;
      }

-- the shape stays
pub fallen-shape : (i n : ℕ) (c x : Parts) → IsShape c → HaveFallen i n c x → IsShape x
fallen-shape i n c x shape h = subst IsShape (sym h.same) (record {
  logs = shape.logs;
  pools = shape.pools;
  txns = shape.txns;
  statuses = h.statuses;
  epochs = shape.epochs;
  masters = shape.masters;
  checks = shape.checks;
  others = shape.others;
  owed = h.owed;
  loose = h.loose;
  own_log = shape.own_log;
  own_txns = shape.own_txns;
})

-- one that falls, or doesn't, is the next
pub fallen-more : (i n : ℕ) (c x y : Parts) → n < 8 → HaveFallen i n c x → y ≡ fell_at i (n + 1) x → HaveFallen i (n + 1) c y
fallen-more i n c x y few h is = subst (HaveFallen i (n + 1) c) (sym is) (one-fallen i n c x few h)

-- all eight have had their turn
pub all-fallen : (i : ℕ) (c x : Parts) → 1 ≤ i → i ≤ 8 → IsShape c → HaveFallen i 8 c x → (j : ℕ) → GoesDown (falls_at i c j) i j c x
all-fallen i c x low high shape h j = ⊎_elim
    (λ e. subst (λ (b : Bool). GoesDown b i j c x) (ap (λ (b : Bool). b && falls_at i c j) e.0) (h.each j))
    (λ e. subst (λ (b : Bool). GoesDown b i j c x) (ap (λ (b : Bool). b && falls_at i c j) e.0 ∙ sym (far e.1)) (h.each j))
    (leb_tells j 8)
  where
    out : (z : ℕ) → 8 < z → status_at c z ≡ S.Closed
    out zero lt = absurd (omega (arith, lt))
    out (suc z) lt = get_or_past c.statuses z S.Closed (let eight = shape.statuses in omega (arith, lt, eight))

    far : 8 < j → falls_at i c j ≡ false
    far lt = ap (falls_with i j) (out j lt) ∙ ap (λ (b : Bool). cond b true false) (ne_eqb i j (λ e. omega (arith, high, lt, e)))
