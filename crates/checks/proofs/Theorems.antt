-- What the checks mean: theorems that are no function's contract. Assumes nothing.
use mathlib.Core.Path.{◌≡◌, sym, ap, ◌∙◌, fun_ext}
use mathlib.Core.Logic.{◌⊎◌, inl, inr, ◌↔◌}
use mathlib.Core.Bool.{Bool, true, false, not, ◌&&◌, ◌||◌}
use mathlib.Core.List.{List, []}
use Prim.Native.Nat.{ℕ, ◌*◌, ◌<◌}
use native.Mathlib.Omega.{arith}
use lib.Dec.{T, eqb, ltb}
use borrow.Author.Tests.{ltb-true, lt-ltb, eqb-true, eqb-false, eq-eqb, ne_eqb, not-true}
use Rattle.std.proofs.lemmas.Bool.{cases_Bool, and_parts, and_from, or_cases, or_left, or_right}
use Rattle.lists.specs.Lists.{range, countb, overwrite}
use Rattle.lists.proofs.Counts.{count_none, sum_none}
use Rattle.lists.proofs.Members.{all_intro, all_elim, range_in}
use Rattle.lists.proofs.Tests.{t→true, true→t, false→not}
use Rattle.rows.specs.Rows.{row_bit, table_bit, encode_row}
use Rattle.graph.specs.Network.{Network, delivers}
use Rattle.graph.specs.Chart.{Pairs, count_pairs}
use Rattle.graph.proofs.Yards.{no_yard_delivers}
use Rattle.map.specs.Memory.{network_of, yard_network}
use Rattle.checks.specs.Sound.{all_set, sound_links, sound_figures, AreLinksSound, AreFiguresSound}
use Rattle.map.specs.Bits.{sound_link, sound_yards, sound_pair}
use Rattle.map.specs.declared.Record.{Record}
use Rattle.map.specs.Empty.{IsEmpty}
use Rattle.checks.proofs.Sets.{all_set_intro, all_set_elim}
use Rattle.map.proofs.Theorems.{network_listed, network_once, network_yardless, network_yard_below, delivering_read, network_linked_below}

-- ---- SOUND LINKS: the test says what the words say, on any words whatever

module _ (W : ℕ) (members yards links : List ℕ) (number : ℕ) where
  abbrev G : Network
  G = yard_network W members yards links

  -- every yard is open: the test, and what it means
  yards_of : sound_yards (64 * W) G ≡ true → (v : ℕ) → T (G.is_yard v) → T (G.is_open v)
  unfolding sound_yards
  yards_of h v t = go (or_cases (not (G.is_yard v)) (G.is_open v) (all_elim (λ v. not (G.is_yard v) || G.is_open v) (range (64 * W)) h (range_in (64 * W) below)))
    where
      below : v < 64 * W
      below = network_yard_below W members yards links v t

      go : (not (G.is_yard v) ≡ true) ⊎ (G.is_open v ≡ true) → T (G.is_open v)
      go (inl n) = absurd (false→not (not-true (G.is_yard v) n) t)
      go (inr o) = true→t o

  yards_if : ((v : ℕ) → T (G.is_yard v) → T (G.is_open v)) → sound_yards (64 * W) G ≡ true
  unfolding sound_yards
  yards_if are = all_intro (λ v. not (G.is_yard v) || G.is_open v) (range (64 * W)) (λ v m. one v (cases_Bool (G.is_yard v)))
    where
      one : (v : ℕ) → (G.is_yard v ≡ true) ⊎ (G.is_yard v ≡ false) → (not (G.is_yard v) || G.is_open v) ≡ true
      one v (inl t) = or_right (not (G.is_yard v)) _ (t→true (G.is_open v) (are v (true→t t)))
      one v (inr f) = or_left _ (G.is_open v) (ap not f)

  links_sound_of : sound_links (64 * W) G number ≡ true → AreLinksSound (64 * W) G number
  unfolding sound_links sound_link
  links_sound_of h = record {
    is_sound = record {
      listed = network_listed W members links;
      once = network_once W members links;
      yards = yards_of all.1;
      ends = λ u v l. true→t (parts u v l).0;
      loopless = λ u v l. eqb-false u v (not-true (eqb u v) (parts u v l).1);
      symmetric = λ u v l. true→t (parts u v l).2;
    };
    counted = eqb-true number (countb G.is_open (range (64 * W))) all.0;
  }
    where
      both : (eqb number (countb G.is_open (range (64 * W))) && sound_yards (64 * W) G ≡ true) × (all_set (64 * W) G.linked (sound_link G) ≡ true)
      both = and_parts (eqb number (countb G.is_open (range (64 * W))) && sound_yards (64 * W) G) (all_set (64 * W) G.linked (sound_link G)) h

      all : (eqb number (countb G.is_open (range (64 * W))) ≡ true) × (sound_yards (64 * W) G ≡ true)
      all = and_parts (eqb number (countb G.is_open (range (64 * W)))) (sound_yards (64 * W) G) both.0

      parts : (u v : ℕ) → T (G.linked u v) → (G.is_open v ≡ true) × (not (eqb u v) ≡ true) × (G.linked v u ≡ true)
      parts u v l =
          let r = network_linked_below W members links u v l in
          let y : sound_link G u v ≡ true = all_set_elim (64 * W) G.linked (sound_link G) both.1 u v r.0 r.1 (t→true (G.linked u v) l) in
          let a = and_parts (G.is_open u && G.is_open v && not (eqb u v)) (G.linked v u) y in
          let b = and_parts (G.is_open u && G.is_open v) (not (eqb u v)) a.0 in
          let c = and_parts (G.is_open u) (G.is_open v) b.0 in
          (c.1, b.1, a.1)

  links_sound_if : AreLinksSound (64 * W) G number → sound_links (64 * W) G number ≡ true
  unfolding sound_links sound_link
  links_sound_if s =
      and_from (eqb number (countb G.is_open (range (64 * W))) && sound_yards (64 * W) G) _
      (and_from (eqb number (countb G.is_open (range (64 * W)))) _ (eq-eqb number (countb G.is_open (range (64 * W))) s.counted) (yards_if s.is_sound.yards))
      (all_set_intro (64 * W) G.linked (sound_link G) (λ u v l m e. one u v e))
    where
      one : (u v : ℕ) → G.linked u v ≡ true → sound_link G u v ≡ true
      one u v e =
          let back : T (G.linked v u) = s.is_sound.symmetric u v (true→t e) in
          let a : G.is_open u ≡ true = t→true _ (s.is_sound.ends v u back) in
          let b : G.is_open v ≡ true = t→true _ (s.is_sound.ends u v (true→t e)) in
          let c : eqb u v ≡ false = ne_eqb u v (s.is_sound.loopless u v (true→t e)) in
          rw (a, b, c) (t→true (G.linked v u) back)

  pub sound_links_iff : (sound_links (64 * W) G number ≡ true) ↔ AreLinksSound (64 * W) G number
  sound_links_iff = (links_sound_of, links_sound_if)

-- ---- SOUND FIGURES: the same, and they ask only which depots deliver

figures_by : (n : ℕ) (G H : Network) → delivers G ≡ delivers H → (P : Pairs) (chain count : ℕ) → sound_figures n G P chain count ≡ sound_figures n H P chain count
unfolding sound_figures sound_pair
figures_by n G H same P chain count =
    ap (λ (Q : ℕ → Bool). all_set n P (λ u v. ltb u v && Q u && Q v) && eqb count (count_pairs (range n) P) && ltb chain n) same

-- of the depots that deliver, as a row, the figures are sound exactly if they are sound of the map
pub figures_delivering : (W : ℕ) (members yards links row : List ℕ) → row ≡ overwrite (encode_row W (delivers (yard_network W members yards []))) members
    → (P : Pairs) (chain count : ℕ)
    → sound_figures (64 * W) (network_of W row []) P chain count ≡ sound_figures (64 * W) (yard_network W members yards links) P chain count
unfolding network_of delivers
figures_delivering W members yards links row e =
    figures_by (64 * W) (network_of W row []) (yard_network W members yards links)
    (fun_ext (λ v. no_yard_delivers (network_of W row []) (network_yardless W row []) v ∙ read v))
  where
    read : (v : ℕ) → (network_of W row []).is_open v ≡ delivers (yard_network W members yards links) v
    read v = ap (λ (r : List ℕ). row_bit W r v) e ∙ delivering_read W members yards [] members v

module _ (n : ℕ) (G : Network) (P : Pairs) (chain count : ℕ) where
  abbrev counted : Bool
  counted = eqb count (count_pairs (range n) P)

  figures_sound_of : sound_figures n G P chain count ≡ true → AreFiguresSound n G P chain count
  unfolding sound_figures sound_pair
  figures_sound_of h = record {
    rising = λ u v l m p. (parts u v l m p).0;
    ends = λ u v l m p. let r = parts u v l m p in (r.1, r.2);
    counted = eqb-true count (count_pairs (range n) P) both.1;
    below = ltb-true chain n all.1;
  }
    where
      all : (all_set n P (sound_pair G) && counted ≡ true) × (ltb chain n ≡ true)
      all = and_parts (all_set n P (sound_pair G) && counted) (ltb chain n) h

      both : (all_set n P (sound_pair G) ≡ true) × (counted ≡ true)
      both = and_parts (all_set n P (sound_pair G)) counted all.0

      parts : (u v : ℕ) → u < n → v < n → T (P u v) → (u < v) × T (delivers G u) × T (delivers G v)
      parts u v l m p =
          let y : sound_pair G u v ≡ true = all_set_elim n P (sound_pair G) both.0 u v l m (t→true (P u v) p) in
          let a = and_parts (ltb u v && delivers G u) (delivers G v) y in
          let b = and_parts (ltb u v) (delivers G u) a.0 in
          (ltb-true u v b.0, true→t b.1, true→t a.1)

  figures_sound_if : AreFiguresSound n G P chain count → sound_figures n G P chain count ≡ true
  unfolding sound_figures sound_pair
  figures_sound_if s =
      let a : all_set n P (sound_pair G) ≡ true = all_set_intro n P (sound_pair G) (λ u v l m e. one u v l m e) in
      let b : counted ≡ true = eq-eqb count (count_pairs (range n) P) s.counted in
      let c : ltb chain n ≡ true = lt-ltb chain n s.below in
      rw (a, b, c)
    where
      one : (u v : ℕ) → u < n → v < n → P u v ≡ true → sound_pair G u v ≡ true
      one u v l m e =
          let o = s.ends u v l m (true→t e) in
          let a : ltb u v ≡ true = lt-ltb u v (s.rising u v l m (true→t e)) in
          let b : delivers G u ≡ true = t→true _ o.0 in
          let c : delivers G v ≡ true = t→true _ o.1 in
          rw (a, b, c)

  pub sound_figures_iff : (sound_figures n G P chain count ≡ true) ↔ AreFiguresSound n G P chain count
  sound_figures_iff = (figures_sound_of, figures_sound_if)

-- ---- AN EMPTY MAP IS SOUND

pub empty_links_sound : (W : ℕ) (rec : Record) (links pairs : List ℕ) → IsEmpty W rec links pairs
    → sound_links (64 * W) (yard_network W rec.members rec.yards links) rec.number ≡ true
empty_links_sound W rec links pairs e =
    (sound_links_iff W rec.members rec.yards links rec.number).1
    (record {
      is_sound = record {
        listed = network_listed W rec.members links;
        once = network_once W rec.members links;
        yards = λ v t. absurd (false→not (e.yardless v) t);
        ends = λ u v l. absurd (false→not (e.unlinked u v) l);
        loopless = λ u v l. absurd (false→not (e.unlinked u v) l);
        symmetric = λ u v l. absurd (false→not (e.unlinked u v) l);
      };
      counted = e.number ∙ sym (count_none _ _ (λ u m. e.closed u));
    })

pub empty_figures_sound : (W : ℕ) (rec : Record) (links pairs : List ℕ) → 0 < W → IsEmpty W rec links pairs
    → sound_figures (64 * W) (yard_network W rec.members rec.yards links) (table_bit W pairs) rec.chain rec.count ≡ true
unfolding count_pairs
empty_figures_sound W rec links pairs some e =
    (sound_figures_iff (64 * W) (yard_network W rec.members rec.yards links) (table_bit W pairs) rec.chain rec.count).1
    (record {
      rising = λ u v l m p. absurd (false→not (e.unpaired u v) p);
      ends = λ u v l m p. absurd (false→not (e.unpaired u v) p);
      counted = e.count ∙ sym (sum_none _ (range (64 * W)) (λ u. count_none _ (range (64 * W)) (λ v m. e.unpaired u v)));
      below = omega (arith, e.chain);
    })
