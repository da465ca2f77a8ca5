-- No two forms have the same words, where the same ordinals are known. It serves the laws on readings.
use Rattle.std.proofs.Common.{◌≡◌, ℕ, ℤ, pos, negsuc, ◌<◌, ◌^◌, List, get_or, refl, sym, ap, ◌∙◌, subst, arith, lit<, ⊎_elim}
use Rattle.std.specs.Prelude.{Option, None, Some, codes}
use Rattle.std.specs.Fmt.{decimal, signed_decimal}
use Rattle.std.specs.Int.Signed.{mag}
use Rattle.std.proofs.lemmas.Fmt.{decimal_injective, signed_decimal_injective}
use Rattle.sd_base.specs.declared.ids.Rid.{Rid}
use Rattle.sd_base.specs.declared.place.Mode.{Mode}
use Rattle.sd_base.specs.declared.place.Mode.TheVariants.{Shared, Excl}
use Rattle.sd_script.specs.declared.line.Form.{Form}
use Rattle.sd_script.specs.declared.line.Form.TheVariants.{Complex, Begin, Read, Write, Add, Insert, Delete, Save, Back, Rollback, Commit, Ask, Give, Take, Evict, Flush, Force, CheckBegin, CheckEnd, Fail, Fuse, Fault, FailAll, Recover, Join, Reopen, RecoverAll, JoinAll, Where, Table}
use Rattle.sd_base.specs.declared.trouble.Pick.{Pick}
use Rattle.sd_base.specs.declared.trouble.Pick.TheVariants.{Keep, Lose, Tear, Junk}
use Rattle.sd_script.specs.Forms.{form_words, rid_word, mode_word, pick_word, number_words, IsForm, IsInst, IsKnownBy, IsAmount, AreSteps, HasRoom}
use Rattle.sd_script.proofs.Spellings.{same_number, same_rid}
use Rattle.sd_script.proofs.Shapes.{begin_is, ask_is, give_is, take_is, evict_is, flush_is, force_is, check_is, complex_is, read_is, delete_is, write_is, add_is, insert_is, save_is, back_is, rollback_is, commit_is, fail_is, fuse_is, fault_is, fail_all_is, reopen_is, recover_is, join_is, no_verb, recovery_is, where_is}

same_ordinal : (m n : ℕ) (o : Option ℕ) → o ≡ Some m → o ≡ Some n → m ≡ n
same_ordinal m n o a b = let both : Some m ≡ Some n = sym a ∙ b in cc

small : (z : ℤ) → IsAmount z → mag z < 2 ^ 63
small (pos n) is = omega (arith, is)
small (negsuc n) is = omega (arith, is)

same_amount : (y z : ℤ) → IsAmount y → IsAmount z → signed_decimal y ≡ signed_decimal z → y ≡ z
same_amount y z a b e = signed_decimal_injective y z (small y a) (small z b) e

same_mode : (m n : Mode) → mode_word m ≡ mode_word n → m ≡ n
same_mode Shared Shared e = refl
same_mode Excl Excl e = refl
same_mode Shared Excl e = absurd (omega (arith, ap (λ (l : List ℕ). get_or l 0 0) e))
same_mode Excl Shared e = absurd (omega (arith, ap (λ (l : List ℕ). get_or l 0 0) e))

same_pick : (p q : Pick) → pick_word p ≡ pick_word q → p ≡ q
same_pick Keep Keep e = refl
same_pick Lose Lose e = refl
same_pick Tear Tear e = refl
same_pick Junk Junk e = refl
same_pick Keep Lose e = absurd (omega (arith, ap (λ (l : List ℕ). get_or l 0 0) e))
same_pick Keep Tear e = absurd (omega (arith, ap (λ (l : List ℕ). get_or l 0 0) e))
same_pick Keep Junk e = absurd (omega (arith, ap (λ (l : List ℕ). get_or l 0 0) e))
same_pick Lose Keep e = absurd (omega (arith, ap (λ (l : List ℕ). get_or l 0 0) e))
same_pick Lose Tear e = absurd (omega (arith, ap (λ (l : List ℕ). get_or l 0 0) e))
same_pick Lose Junk e = absurd (omega (arith, ap (λ (l : List ℕ). get_or l 0 0) e))
same_pick Tear Keep e = absurd (omega (arith, ap (λ (l : List ℕ). get_or l 0 0) e))
same_pick Tear Lose e = absurd (omega (arith, ap (λ (l : List ℕ). get_or l 0 0) e))
same_pick Tear Junk e = absurd (omega (arith, ap (λ (l : List ℕ). get_or l 0 0) e))
same_pick Junk Keep e = absurd (omega (arith, ap (λ (l : List ℕ). get_or l 0 0) e))
same_pick Junk Lose e = absurd (omega (arith, ap (λ (l : List ℕ). get_or l 0 0) e))
same_pick Junk Tear e = absurd (omega (arith, ap (λ (l : List ℕ). get_or l 0 0) e))

no_all : (i : ℕ) → IsInst i → decimal i ≡ codes "all" → ⊥
no_all i is e = no_verb i is (codes "all") (lit< tt) e

same_steps : (k l : Option ℕ) → AreSteps k → AreSteps l → number_words k ≡ number_words l → k ≡ l
same_steps None None a b e = refl
same_steps (Some k) (Some l) a b e = ap (λ (n : ℕ). Some n) (decimal_injective k l (omega (arith, a.1)) (omega (arith, b.1)) (cc))
same_steps k l a b e = absurd (cc)

same_capacity : (value : List ℕ) (c d : Option ℕ) → HasRoom value c → HasRoom value d → number_words c ≡ number_words d
    → c ≡ d
same_capacity value None None a b e = refl
same_capacity value (Some c) (Some d) a b e = ap (λ (n : ℕ). Some n) (same_number c d (omega (arith, a.1)) (omega (arith, b.1)) (cc))
same_capacity value c d a b e = absurd (cc)

pub one_form : (known : List ℕ → Option ℕ) (f g : Form) → IsForm f → IsForm g → IsKnownBy known f → IsKnownBy known g
    → form_words f ≡ form_words g → f ≡ g
one_form known (Complex i p k) g a b c d e =
    let at = complex_is g (decimal i) (decimal p) (decimal k) b (sym e) in
    let parts = subst IsForm at.3 b in
    let insts : i ≡ at.0 = same_number i at.0 (omega (arith, a.0)) (omega (arith, parts.0)) (sym at.4) in
    let pages : p ≡ at.1 = same_number p at.1 (omega (arith, a.1)) (omega (arith, parts.1)) (sym at.5) in
    let frames : k ≡ at.2 = same_number k at.2 (omega (arith, a.2)) (omega (arith, parts.2)) (sym at.6) in
    ap (λ (n : ℕ). Complex n p k) insts ∙ ap (λ (n : ℕ). Complex at.0 n k) pages ∙ ap (λ (n : ℕ). Complex at.0 at.1 n) frames
    ∙ sym at.3
one_form known (Begin i x) g a b c d e = sym (begin_is g i x b a.0 (sym e))
one_form known (Read x m r) g a b c d e =
    let at = read_is g x (rid_word r) b (sym e) in
    let parts = subst IsForm at.2 b in
    let ordinal : m ≡ at.0 = same_ordinal m at.0 (known x) c (subst (IsKnownBy known) at.2 d) in
    let rid : r ≡ at.1 = same_rid r at.1 a.1 parts.1 (sym at.3) in
    ap (λ (n : ℕ). Read x n r) ordinal ∙ ap (λ (q : Rid). Read x at.0 q) rid ∙ sym at.2
one_form known (Write x m r v) g a b c d e =
    let at = write_is g x (rid_word r) v b (sym e) in
    let parts = subst IsForm at.2 b in
    let ordinal : m ≡ at.0 = same_ordinal m at.0 (known x) c (subst (IsKnownBy known) at.2 d) in
    let rid : r ≡ at.1 = same_rid r at.1 a.1 parts.1 (sym at.3) in
    ap (λ (n : ℕ). Write x n r v) ordinal ∙ ap (λ (q : Rid). Write x at.0 q v) rid ∙ sym at.2
one_form known (Add x m r y) g a b c d e =
    let at = add_is g x (rid_word r) (signed_decimal y) b (sym e) in
    let parts = subst IsForm at.3 b in
    let ordinal : m ≡ at.0 = same_ordinal m at.0 (known x) c (subst (IsKnownBy known) at.3 d) in
    let rid : r ≡ at.1 = same_rid r at.1 a.1 parts.1 (sym at.4) in
    let amount : y ≡ at.2 = same_amount y at.2 a.2 parts.2 (sym at.5) in
    ap (λ (n : ℕ). Add x n r y) ordinal ∙ ap (λ (q : Rid). Add x at.0 q y) rid ∙ ap (λ (z : ℤ). Add x at.0 at.1 z) amount
    ∙ sym at.3
one_form known (Insert x m p v k) g a b c d e =
    let at = insert_is g x (decimal p) v (number_words k) b (sym e) in
    let parts = subst IsForm at.3 b in
    let ordinal : m ≡ at.0 = same_ordinal m at.0 (known x) c (subst (IsKnownBy known) at.3 d) in
    let page : p ≡ at.1 = same_number p at.1 (omega (arith, a.1)) (omega (arith, parts.1)) (sym at.4) in
    let capacity : k ≡ at.2 = same_capacity v k at.2 a.3 parts.3 (sym at.5) in
    ap (λ (n : ℕ). Insert x n p v k) ordinal ∙ ap (λ (n : ℕ). Insert x at.0 n v k) page
    ∙ ap (λ (o : Option ℕ). Insert x at.0 at.1 v o) capacity ∙ sym at.3
one_form known (Delete x m r) g a b c d e =
    let at = delete_is g x (rid_word r) b (sym e) in
    let parts = subst IsForm at.2 b in
    let ordinal : m ≡ at.0 = same_ordinal m at.0 (known x) c (subst (IsKnownBy known) at.2 d) in
    let rid : r ≡ at.1 = same_rid r at.1 a.1 parts.1 (sym at.3) in
    ap (λ (n : ℕ). Delete x n r) ordinal ∙ ap (λ (q : Rid). Delete x at.0 q) rid ∙ sym at.2
one_form known (Save x m s) g a b c d e =
    let at = save_is g x s b (sym e) in
    let ordinal : m ≡ at.0 = same_ordinal m at.0 (known x) c (subst (IsKnownBy known) at.1 d) in
    ap (λ (n : ℕ). Save x n s) ordinal ∙ sym at.1
one_form known (Back x m s) g a b c d e =
    let at = back_is g x s b (sym e) in
    let ordinal : m ≡ at.0 = same_ordinal m at.0 (known x) c (subst (IsKnownBy known) at.1 d) in
    ap (λ (n : ℕ). Back x n s) ordinal ∙ sym at.1
one_form known (Rollback x m) g a b c d e =
    let at = rollback_is g x b (sym e) in
    let ordinal : m ≡ at.0 = same_ordinal m at.0 (known x) c (subst (IsKnownBy known) at.1 d) in
    ap (λ (n : ℕ). Rollback x n) ordinal ∙ sym at.1
one_form known (Commit x m) g a b c d e =
    let at = commit_is g x b (sym e) in
    let ordinal : m ≡ at.0 = same_ordinal m at.0 (known x) c (subst (IsKnownBy known) at.1 d) in
    ap (λ (n : ℕ). Commit x n) ordinal ∙ sym at.1
one_form known (Ask i p m) g a b c d e =
    let at = ask_is g i (decimal p) (mode_word m) b a.0 (sym e) in
    let parts = subst IsForm at.2 b in
    let page : p ≡ at.0 = same_number p at.0 (omega (arith, a.1)) (omega (arith, parts.1)) (sym at.3) in
    let mode : m ≡ at.1 = same_mode m at.1 (sym at.4) in
    ap (λ (n : ℕ). Ask i n m) page ∙ ap (λ (k : Mode). Ask i at.0 k) mode ∙ sym at.2
one_form known (Give i p) g a b c d e =
    let at = give_is g i (decimal p) b a.0 (sym e) in
    let parts = subst IsForm at.1 b in
    let page : p ≡ at.0 = same_number p at.0 (omega (arith, a.1)) (omega (arith, parts.1)) (sym at.2) in
    ap (λ (n : ℕ). Give i n) page ∙ sym at.1
one_form known (Take i p) g a b c d e =
    let at = take_is g i (decimal p) b a.0 (sym e) in
    let parts = subst IsForm at.1 b in
    let page : p ≡ at.0 = same_number p at.0 (omega (arith, a.1)) (omega (arith, parts.1)) (sym at.2) in
    ap (λ (n : ℕ). Take i n) page ∙ sym at.1
one_form known (Evict i p) g a b c d e =
    let at = evict_is g i (decimal p) b a.0 (sym e) in
    let parts = subst IsForm at.1 b in
    let page : p ≡ at.0 = same_number p at.0 (omega (arith, a.1)) (omega (arith, parts.1)) (sym at.2) in
    ap (λ (n : ℕ). Evict i n) page ∙ sym at.1
one_form known (Flush i p) g a b c d e =
    let at = flush_is g i (decimal p) b a.0 (sym e) in
    let parts = subst IsForm at.1 b in
    let page : p ≡ at.0 = same_number p at.0 (omega (arith, a.1)) (omega (arith, parts.1)) (sym at.2) in
    ap (λ (n : ℕ). Flush i n) page ∙ sym at.1
one_form known (Force i) g a b c d e = sym (force_is g i b a (sym e))
one_form known (CheckBegin i) g a b c d e = ⊎_elim (λ begins. sym begins.0)
    (λ ends. absurd (omega (arith, ap (λ (l : List ℕ). get_or l 0 0) ends.1))) (check_is g i (codes "begin") b a (sym e))
one_form known (CheckEnd i) g a b c d e = ⊎_elim (λ begins. absurd (omega (arith, ap (λ (l : List ℕ). get_or l 0 0) begins.1)))
    (λ ends. sym ends.0) (check_is g i (codes "end") b a (sym e))
one_form known (Fail i) g a b c d e =
    let at = fail_is g (decimal i) b (sym e) in
    let parts = subst IsForm at.1 b in
    let inst : i ≡ at.0 = same_number i at.0 (omega (arith, a)) (omega (arith, parts)) (sym at.2) in
    ap (λ (n : ℕ). Fail n) inst ∙ sym at.1
one_form known (Fuse n) g a b c d e =
    let at = fuse_is g (decimal n) b (sym e) in
    let parts = subst IsForm at.1 b in
    let calls : n ≡ at.0 = same_number n at.0 (omega (arith, a)) (omega (arith, parts)) (sym at.2) in
    ap (λ (k : ℕ). Fuse k) calls ∙ sym at.1
one_form known (Fault n) g a b c d e =
    let at = fault_is g (decimal n) b (sym e) in
    let parts = subst IsForm at.1 b in
    let call : n ≡ at.0 = same_number n at.0 (omega (arith, a.1)) (omega (arith, parts.1)) (sym at.2) in
    ap (λ (k : ℕ). Fault k) call ∙ sym at.1
one_form known (FailAll p) g a b c d e =
    let at = fail_all_is g (codes "all") (pick_word p) b (sym e) in
    ap (λ (q : Pick). FailAll q) (same_pick p at.0 (sym at.3)) ∙ sym at.1
one_form known Reopen g a b c d e = sym (reopen_is g b (sym e))
one_form known RecoverAll g a b c d e = sym (recover_is g (codes "all") b (sym e)).0
one_form known JoinAll g a b c d e = ⊎_elim (λ every. sym every.0)
    (λ one. absurd (no_all one.0 (subst IsForm one.1 b) one.2)) (join_is g (codes "all") b (sym e))
one_form known (Join i) g a b c d e = ⊎_elim (λ every. absurd (no_all i a (sym every.1)))
    (λ one. ap (λ (n : ℕ). Join n) (same_number i one.0 (omega (arith, a)) (omega (arith, let is : IsInst one.0 = subst IsForm one.1 b in is)) (sym one.2)) ∙ sym one.1)
    (join_is g (decimal i) b (sym e))
one_form known (Recover i j k) g a b c d e =
    let at = recovery_is g (decimal i) (codes "by") (decimal j) (number_words k) b (sym e) in
    let parts = subst IsForm at.3 b in
    let inst : i ≡ at.0 = same_number i at.0 (omega (arith, a.0)) (omega (arith, parts.0)) (sym at.4) in
    let by : j ≡ at.1 = same_number j at.1 (omega (arith, a.1)) (omega (arith, parts.1)) (sym at.6) in
    let most : k ≡ at.2 = same_steps k at.2 a.2 parts.2 (sym at.7) in
    ap (λ (n : ℕ). Recover n j k) inst ∙ ap (λ (n : ℕ). Recover at.0 n k) by
    ∙ ap (λ (o : Option ℕ). Recover at.0 at.1 o) most ∙ sym at.3
one_form known (Where p) g a b c d e =
    let at = where_is g (decimal p) b (sym e) in
    let parts = subst IsForm at.1 b in
    let page : p ≡ at.0 = same_number p at.0 (omega (arith, a)) (omega (arith, parts)) (sym at.2) in
    ap (λ (n : ℕ). Where n) page ∙ sym at.1
one_form known Table Table a b c d e = refl
one_form known Table g a b c d e = absurd (cc)
