-- The refusal given is that of the first number, by place, that fails a check.
-- Assumes nothing.
use Prim.Native.Nat.{ℕ, zero, suc, ◌+◌, ◌-◌, ◌*◌, ◌^◌, ◌≤◌, ◌<◌}
use mathlib.Core.Path.{◌≡◌, refl, ap, sym, ◌∙◌, subst}
use mathlib.Core.List.{List, [], ◌∷◌, ◌++◌}
use mathlib.Core.Bool.{Bool, true, false, cond}
use native.Mathlib.Omega.{arith}
use borrow.Author.Tests.{le-leb, lt-leb, eq-eqb, ne_eqb}
use lib.Dec.{leb, eqb}
use lib.ListN.{length, drop, length-append}
use lib.Pow.{pow_pos}
use Rattle.numbers.specs.Number.{Taken, bad, taken, number}
use Rattle.lists.specs.declared.Header.{Header}
use Rattle.lists.specs.Values.{Cycle, PeriodicList, cycles_of, words_of}
use Rattle.lists.specs.Rules.{Check, right, wrong, also, word_rule, split_rule, rules}
use Rattle.lists.specs.Reading.{Read, denied, took, then, when, or_five, number_in, within, after_ms, header_in, words_in, splits_in, summed_in, split_in, body_in, cycle_in, cycles_in, list_in}
use Rattle.lists.specs.Accepts.{ending, ended, accepted}
use Rattle.list_laws.specs.Order.{Want, one, ms, gap, reserve, count, word, split, Due, want, over, after_cycles, splits_due, after_words, words_due, range, check, next, Refuses, unreadable, fails, later, at-end}
use Rattle.lists.proofs.ThenLaws.{then_yes, when_yes, yes_value}

-- each from the other
record Iff (A B : Type 0) : Type 0 where
  pub to : A → B
  pub from : B → A

iff_id : {A : Type 0} → Iff A A
iff_id = record { to = λ a. a; from = λ a. a }

iff_then : {A B C : Type 0} → Iff A B → Iff B C → Iff A C
iff_then f g = record { to = λ a. g.to (f.to a); from = λ c. f.from (g.from c) }

-- a reading refuses, or what is due after it does
abbrev After : {X : Type 0} → Read X → (X → Due) → ℕ → Type 0
After (denied n) e m = m ≡ n
After (took x rest) e m = Refuses (e x) rest m

after_same : {X : Type 0} (r s : Read X) (e : X → Due) (m : ℕ) → r ≡ s → Iff (After r e m) (After s e m)
after_same r s e m q = subst (λ x. Iff (After r e m) (After x e m)) q iff_id

bind : {X Y : Type 0} (r : Read X) (e : X → Due) (f : X → List ℕ → Read Y) (d : Y → Due) (m : ℕ)
    → ((x : X) (rest : List ℕ) → r ≡ took x rest → Iff (Refuses (e x) rest m) (After (f x rest) d m)) → Iff (After r e m) (After (then r f) d m)
bind (denied n) e f d m h = iff_id
bind (took x rest) e f d m h = h x rest refl

-- ---- one number
checked : Want → List ℕ → Read ℕ
checked w bytes = then (number_in bytes) (λ v rest. when (check w v) (took v rest))

step_to : (w : Want) (bytes : List ℕ) (m : ℕ) → Refuses (want w) bytes m → After (checked w bytes) (next w) m
unfolding checked number_in
step_to w bytes m (unreadable q) = rw q
step_to w bytes m (fails q c) = rw (q, c)
step_to w bytes m (later q c r) = rw (q, c) r

step_from : (w : Want) (bytes : List ℕ) (m : ℕ) → After (checked w bytes) (next w) m → Refuses (want w) bytes m
unfolding checked number_in
step_from w bytes m a = by_number (number bytes) refl a
  where
    by_check : (v n : ℕ) (c : Check) → number bytes ≡ taken v n → check w v ≡ c → After (when c (took v (drop n bytes))) (next w) m → Refuses (want w) bytes m
    by_check v n right q e a = later q e a
    by_check v n (wrong k) q e a = fails q (e ∙ ap wrong (sym a))

    by_number : (t : Taken) → number bytes ≡ t → After (then (or_five bytes t) (λ v rest. when (check w v) (took v rest))) (next w) m → Refuses (want w) bytes m
    by_number bad q a = subst (Refuses (want w) bytes) (sym a) (unreadable q)
    by_number (taken v n) q a = by_check v n (check w v) q refl a

step : (w : Want) (bytes : List ℕ) (m : ℕ) → Iff (Refuses (want w) bytes m) (After (checked w bytes) (next w) m)
step w bytes m = record { to = step_to w bytes m; from = step_from w bytes m }

-- ---- words
when_one : {X Y : Type 0} (c : Check) (x : X) (rest : List ℕ) (f : X → List ℕ → Read Y) → then (when c (took x rest)) f ≡ when c (f x rest)
when_one right x rest f = refl
when_one (wrong n) x rest f = refl

when_then : {X Y : Type 0} (r : Read X) (c : X → Check) (f : X → List ℕ → Read Y) → then (then r (λ x rest. when (c x) (took x rest))) f ≡ then r (λ x rest. when (c x) (f x rest))
when_then (denied n) c f = refl
when_then (took x rest) c f = when_one (c x) x rest f

words : (k : ℕ) (h : Header) (cs : List Cycle) (own bytes : List ℕ) (m : ℕ)
    → Iff (Refuses (words_due h cs own k) bytes m) (After (words_in rules k (words_of cs) own bytes) (after_words (length cs) h cs) m)
unfolding checked
words zero h cs own bytes m = iff_id
words (suc k) h cs own bytes m =
    iff_then (step (word h cs own k) bytes m)
    (iff_then
    (bind (checked (word h cs own k) bytes) (λ w. words_due h cs (own ++ w ∷ []) k) (λ w rest. words_in rules k (words_of cs) (own ++ w ∷ []) rest) (after_words (length cs) h cs) m (λ w rest q. words k h cs (own ++ w ∷ []) rest m))
    (after_same (then (checked (word h cs own k) bytes) (λ w rest. words_in rules k (words_of cs) (own ++ w ∷ []) rest)) (words_in rules (suc k) (words_of cs) own bytes) (after_words (length cs) h cs) m
    (when_then (number_in bytes) (word_rule (words_of cs ++ own)) (λ w rest. words_in rules k (words_of cs) (own ++ w ∷ []) rest))))

words_long : (k : ℕ) (before own bytes ws rest : List ℕ) → words_in rules k before own bytes ≡ took ws rest → length ws ≡ length own + k
words_long zero before own bytes ws rest e = ap length (sym (yes_value own ws bytes rest e)) ∙ omega arith
words_long (suc k) before own bytes ws rest e =
    let i = then_yes (number_in bytes) (λ w r. when (word_rule (before ++ own) w) (words_in rules k before (own ++ w ∷ []) r)) ws rest e in
    let u = when_yes (word_rule (before ++ own) i.0) (words_in rules k before (own ++ i.0 ∷ []) i.1) ws rest i.3 in
    omega (arith, words_long k before (own ++ i.0 ∷ []) i.1 ws rest u.1, length-append own (i.0 ∷ []))

-- ---- split numbers
summed : ℕ → ℕ → List ℕ → List ℕ → Read (List ℕ)
summed k n zs bytes = then (splits_in k zs bytes) (λ xs rest. when (split_rule n xs) (took xs rest))

then_assoc : {X Y Z : Type 0} (r : Read X) (f : X → List ℕ → Read Y) (g : Y → List ℕ → Read Z) → then (then r f) g ≡ then r (λ x rest. then (f x rest) g)
then_assoc (denied n) f g = refl
then_assoc (took x rest) f g = refl

-- at a cycle's last split number 6, then 9
last_split : (n : ℕ) (zs : List ℕ) (r : Read ℕ)
    → then (then r (λ v rest. when (also (range 0 256 v) (split_rule n (zs ++ v ∷ []))) (took v rest))) (λ v rest. took (zs ++ v ∷ []) rest)
    ≡ then (then (then r (λ v rest. when (range 0 256 v) (took v rest))) (λ v rest. took (zs ++ v ∷ []) rest)) (λ xs rest. when (split_rule n xs) (took xs rest))
last_split n zs (denied k) = refl
last_split n zs (took v rest) = go (range 0 256 v)
  where
    go : (a : Check) → then (when (also a (split_rule n (zs ++ v ∷ []))) (took v rest)) (λ v rest. took (zs ++ v ∷ []) rest)
        ≡ then (then (when a (took v rest)) (λ v rest. took (zs ++ v ∷ []) rest)) (λ xs rest. when (split_rule n xs) (took xs rest))
    go right = when_one (split_rule n (zs ++ v ∷ [])) v rest (λ v rest. took (zs ++ v ∷ []) rest)
    go (wrong k) = refl

abbrev with_cycle : Header → List Cycle → List ℕ → List ℕ → Due
with_cycle h cs ws zs = after_cycles h (cs ++ record { words = ws; splits = zs } ∷ [])

splits : (k : ℕ) (h : Header) (cs : List Cycle) (ws zs bytes : List ℕ) (m : ℕ)
    → Iff (Refuses (splits_due h cs ws zs (suc k)) bytes m) (After (summed (suc k) (length ws) zs bytes) (with_cycle h cs ws) m)
unfolding checked summed within
splits zero h cs ws zs bytes m =
    iff_then (step (split h cs ws zs zero) bytes m)
    (iff_then
    (bind (checked (split h cs ws zs zero) bytes) (λ z. with_cycle h cs ws (zs ++ z ∷ [])) (λ z rest. took (zs ++ z ∷ []) rest) (with_cycle h cs ws) m (λ z rest q. iff_id))
    (after_same (then (checked (split h cs ws zs zero) bytes) (λ z rest. took (zs ++ z ∷ []) rest)) (summed 1 (length ws) zs bytes) (with_cycle h cs ws) m (last_split (length ws) zs (number_in bytes))))
splits (suc k) h cs ws zs bytes m =
    iff_then (step (split h cs ws zs (suc k)) bytes m)
    (iff_then
    (bind (checked (split h cs ws zs (suc k)) bytes) (λ z. splits_due h cs ws (zs ++ z ∷ []) (suc k)) (λ z rest. summed (suc k) (length ws) (zs ++ z ∷ []) rest) (with_cycle h cs ws) m (λ z rest q. splits k h cs ws (zs ++ z ∷ []) rest m))
    (after_same (then (checked (split h cs ws zs (suc k)) bytes) (λ z rest. summed (suc k) (length ws) (zs ++ z ∷ []) rest)) (summed (suc (suc k)) (length ws) zs bytes) (with_cycle h cs ws) m
    (sym (then_assoc (within 0 256 bytes) (λ z rest. splits_in (suc k) (zs ++ z ∷ []) rest) (λ xs rest. when (split_rule (length ws) xs) (took xs rest))))))

split_part : (n : ℕ) (h : Header) (cs : List Cycle) (ws bytes : List ℕ) (m : ℕ) → Iff (Refuses (after_words n h cs ws) bytes m) (After (split_in rules n (length ws) bytes) (with_cycle h cs ws) m)
unfolding split_in summed_in summed
split_part zero h cs ws bytes m = iff_id
split_part (suc n) h cs [] bytes m = iff_id
split_part (suc n) h cs (w ∷ ws) bytes m =
    let e : 2 ^ suc n ≡ suc (2 ^ suc n - 1) = omega (arith, pow_pos (suc n)) in
    subst (λ (k : ℕ). Iff (Refuses (splits_due h cs (w ∷ ws) [] k) bytes m) (After (summed k (length (w ∷ ws)) [] bytes) (with_cycle h cs (w ∷ ws)) m)) (sym e) (splits (2 ^ suc n - 1) h cs (w ∷ ws) [] bytes m)

-- ---- cycles
body : (h : Header) (cs : List Cycle) (k : ℕ) (bytes : List ℕ) (m : ℕ)
    → Iff (Refuses (words_due h cs [] k) bytes m) (After (body_in rules (length cs) (words_of cs) k bytes) (λ c. after_cycles h (cs ++ c ∷ [])) m)
unfolding body_in
body h cs k bytes m =
    iff_then (words k h cs [] bytes m)
    (bind (words_in rules k (words_of cs) [] bytes) (after_words (length cs) h cs) (λ ws rest. then (split_in rules (length cs) k rest) (λ zs end. took (record { words = ws; splits = zs }) end))
    (λ c. after_cycles h (cs ++ c ∷ [])) m
    (λ ws rest q.
    let l : length ws ≡ k = words_long k (words_of cs) [] bytes ws rest q ∙ omega arith in
    subst (λ (n : ℕ). Iff (Refuses (after_words (length cs) h cs ws) rest m) (After (then (split_in rules (length cs) n rest) (λ zs end. took (record { words = ws; splits = zs }) end)) (λ c. after_cycles h (cs ++ c ∷ [])) m)) l
    (iff_then (split_part (length cs) h cs ws rest m)
    (bind (split_in rules (length cs) (length ws) rest) (with_cycle h cs ws) (λ zs end. took (record { words = ws; splits = zs }) end) (λ c. after_cycles h (cs ++ c ∷ [])) m (λ zs end q. iff_id)))))

cycle : (h : Header) (cs : List Cycle) (bytes : List ℕ) (m : ℕ) → Iff (Refuses (want (count h cs)) bytes m) (After (cycle_in rules (length cs) (words_of cs) bytes) (λ c. after_cycles h (cs ++ c ∷ [])) m)
unfolding cycle_in checked within
cycle h cs bytes m =
    iff_then (step (count h cs) bytes m)
    (bind (within 0 256 bytes) (words_due h cs []) (λ k rest. body_in rules (length cs) (words_of cs) k rest) (λ c. after_cycles h (cs ++ c ∷ [])) m (λ k rest q. body h cs k rest m))

cycles : (k : ℕ) (h : Header) (n : ℕ) (cs : List Cycle) (bytes : List ℕ) (m : ℕ) → n ≡ length cs → length cs + k ≡ cycles_of h.ms
    → Iff (Refuses (after_cycles h cs) bytes m) (After (cycles_in rules k n cs bytes) (λ ds. over (record { head = h; cycles = ds })) m)
cycles zero h n cs bytes m e l =
    let q : eqb (length cs) (cycles_of h.ms) ≡ true = eq-eqb (length cs) (cycles_of h.ms) (omega arith) in
    subst (λ (b : Bool). Iff (Refuses (cond b (over (record { head = h; cycles = cs })) (want (count h cs))) bytes m) (Refuses (over (record { head = h; cycles = cs })) bytes m)) (sym q) iff_id
cycles (suc k) h n cs bytes m e l =
    let q : eqb (length cs) (cycles_of h.ms) ≡ false = ne_eqb (length cs) (cycles_of h.ms) (λ z. absurd (omega arith)) in
    subst (λ (b : Bool). Iff (Refuses (cond b (over (record { head = h; cycles = cs })) (want (count h cs))) bytes m) (After (cycles_in rules (suc k) n cs bytes) (λ ds. over (record { head = h; cycles = ds })) m)) (sym q)
    (iff_then (cycle h cs bytes m)
    (iff_then
    (after_same (cycle_in rules (length cs) (words_of cs) bytes) (cycle_in rules n (words_of cs) bytes) (λ c. after_cycles h (cs ++ c ∷ [])) m (ap (λ (x : ℕ). cycle_in rules x (words_of cs) bytes) (sym e)))
    (bind (cycle_in rules n (words_of cs) bytes) (λ c. after_cycles h (cs ++ c ∷ [])) (λ c rest. cycles_in rules k (suc n) (cs ++ c ∷ []) rest) (λ ds. over (record { head = h; cycles = ds })) m
    (λ c rest x. cycles k h (suc n) (cs ++ c ∷ []) rest m (omega (arith, length-append cs (c ∷ []))) (omega (arith, length-append cs (c ∷ [])))))))

-- ---- the header
head_part : (s : List ℕ) (m : ℕ) → Iff (Refuses (want one) s m) (After (header_in s) (λ h. after_cycles h []) m)
unfolding header_in after_ms checked within
head_part s m =
    iff_then (step one s m)
    (bind (within 1 1 s) (λ v. want ms) (λ v rest. then (within 1 2 rest) (λ p end. after_ms p end)) (λ h. after_cycles h []) m (λ v r₁ q.
    iff_then (step ms r₁ m)
    (bind (within 1 2 r₁) (λ p. want (gap p)) (λ p end. after_ms p end) (λ h. after_cycles h []) m (λ p r₂ q.
    iff_then (step (gap p) r₂ m)
    (bind (within 4 128 r₂) (λ g. want (reserve p g)) (λ g rest. then (within (67 + g) (1500 * p) rest) (λ u end. took (record { ms = p; gap = g; reserve = u }) end)) (λ h. after_cycles h []) m (λ g r₃ q.
    iff_then (step (reserve p g) r₃ m)
    (bind (within (67 + g) (1500 * p) r₃) (λ u. after_cycles (record { ms = p; gap = g; reserve = u }) []) (λ u end. took (record { ms = p; gap = g; reserve = u }) end) (λ h. after_cycles h []) m (λ u r₄ q. iff_id))))))))

list_part : (s : List ℕ) (m : ℕ) → Iff (Refuses (want one) s m) (After (list_in rules s) over m)
unfolding list_in
list_part s m =
    iff_then (head_part s m)
    (bind (header_in s) (λ h. after_cycles h []) (λ h rest. then (cycles_in rules (cycles_of h.ms) 0 [] rest) (λ cs end. took (record { head = h; cycles = cs }) end)) over m (λ h rest q.
    iff_then (cycles (cycles_of h.ms) h 0 [] rest m refl (omega arith))
    (bind (cycles_in rules (cycles_of h.ms) 0 [] rest) (λ cs. over (record { head = h; cycles = cs })) (λ cs end. took (record { head = h; cycles = cs }) end) over m (λ cs end x. iff_id))))

-- ---- the file
end_to : (l : PeriodicList) (rest : List ℕ) (m : ℕ) → Refuses (over l) rest m → ended l rest ≡ denied m
unfolding ended
end_to l rest m (at-end e) = rw e

end_from : (l : PeriodicList) (rest : List ℕ) (m : ℕ) → ended l rest ≡ denied m → Refuses (over l) rest m
unfolding ended
end_from l rest m e = go (ending l rest) refl e
  where
    go : (c : Check) → ending l rest ≡ c → when c (took l rest) ≡ denied m → Refuses (over l) rest m
    go right q e = let z : ◌≡◌ {A = ℕ} 0 1 = cc in absurd (omega arith)
    go (wrong n) q e = let i : n ≡ m = cc in at-end (q ∙ ap wrong i)

-- a list of at most 16,384 bytes is refused with m exactly when its first number that fails a check fails with m
pub first_fault : (s : List ℕ) (m : ℕ) → length s ≤ 16384 → (accepted s ≡ denied m → Refuses (want one) s m) × (Refuses (want one) s m → accepted s ≡ denied m)
unfolding accepted
first_fault s m h =
    let b : leb (length s) 16384 ≡ true = le-leb (length s) 16384 h in
    let i = list_part s m in (
      λ e. i.from (from_end (list_in rules s) (rw b at e)),
      λ r. rw b (to_end (list_in rules s) (i.to r)),
    )
  where
    from_end : (r : Read PeriodicList) → then r ended ≡ denied m → After r over m
    from_end (denied n) e = cc
    from_end (took l rest) e = end_from l rest m e

    to_end : (r : Read PeriodicList) → After r over m → then r ended ≡ denied m
    to_end (denied n) a = ap denied (sym a)
    to_end (took l rest) a = end_to l rest m a

-- "1 for the file"
pub too_long_first : (s : List ℕ) → 16384 < length s → accepted s ≡ denied 1
unfolding accepted
too_long_first s h = rw (lt-leb (length s) 16384 h)
