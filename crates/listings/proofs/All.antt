-- A text that is lent: put aside and lent, or put again; and the listings of all nodes. Assumes nothing.
use mathlib.Core.Path.{◌≡◌, refl, sym, subst, ◌∙◌, ap}
use mathlib.Core.List.{List, [], ◌∷◌, append-nil}
use mathlib.Core.Bool.{Bool, true, false}
use Prim.Native.Nat.{ℕ, ◌-◌, ◌≤◌, ◌<◌}
use native.Mathlib.Omega.{arith}
use lib.Dec.{leb}
use lib.ListN.{length, take}
use borrow.Author.Tests.{le-leb, lt-leb}
use Rattle.std.proofs.Common.{Result, Ok, Err}
use Rattle.definitions.specs.declared.Refusal.{Refusal}
use Rattle.definitions.specs.Lists.{choose, over, Letters}
use Rattle.definitions.specs.Tokens.{TagValue}
use Rattle.definitions.specs.Tree.{Node}
use Rattle.definitions.specs.Reading.{got, times}
use Rattle.definitions.specs.Grammar.{node}
use Rattle.definitions.specs.Refusals.{Answer, accepted, refused, faulty, ◌>>=◌}
use Rattle.definitions.specs.InferClocks.{Formed, deep, formed, Clocking, clocking}
use Rattle.definitions.specs.Output.{letters_of}
use Rattle.definitions.specs.Answer.{Input, clockings, node_at, node_listing}
use Rattle.shapes.proofs.Facts.{over-there}
use Rattle.grammar.proofs.Got.{times-nil, times-cons}
use Rattle.parts.specs.Bytes.{written_answer, written_bytes}
use Rattle.lines.specs.Lending.{lent_text}
use Rattle.spelling.proofs.Writing.{over-front}
use Rattle.query.specs.Listed.{TextStands}
use Rattle.query.specs.Words.{PutText}
use Rattle.query.proofs.Nodes.{node-formed, node-deep}
use Rattle.listings.specs.Lending.{lent_answer}
use Rattle.listings.specs.Answers.{nodes_listed, listing_of, listings_of, ListingGiven}
use Rattle.listings.proofs.Given.{listing-same}

-- ---- a text is lent, or 12
pub lent-given : (b lent lent' : List ℕ) (w : Result ℕ Refusal) → w ≡ written_answer b lent → lent' ≡ written_bytes b lent → ListingGiven (lent_text b (length lent)) lent lent' w
unfolding written_answer written_bytes
lent-given b lent lent' w answer filled = go (leb (length b) (length lent)) refl answer filled
  where
    go : (t : Bool) → leb (length b) (length lent) ≡ t → w ≡ choose t (Ok (length b)) (Err (Refusal.Lent (length b))) → lent' ≡ choose t (over b lent) lent → ListingGiven (lent_text b (length lent)) lent lent' w
    go true t f g = rw t (record { answer = f; bytes = g })
    go false t f g = rw t (record { answer = f; bytes = g })

-- ---- no node, and one alone
pub listings-none : (i : Input) (lent : List ℕ) → i.sheet.nodes ≡ [] → ListingGiven (listings_of i (length lent)) lent lent (Ok 0)
unfolding clockings
listings-none i lent e = let g = le-leb 0 (length lent) (omega arith) in rw (e, g) (record { answer = refl; bytes = refl })

one-node : (M : ℕ) (ts : List TagValue) (count from : ℕ) (ns : List Node) (q : ℕ) → count ≡ 1 → times count (node M) ts from ≡ got ns q → (n : Node) × (ns ≡ n ∷ [])
one-node M ts count from ns q e g =
    let c = times-cons (node M) ts count from ns q (λ y. omega (arith, e, y)) g in
    let z = times-nil (node M) ts (count - 1) c.1 c.2 q (omega arith) c.4 in
    (c.0, c.5 ∙ ap (λ (l : List Node). c.0 ∷ l) z.0)

only-listing : (i : Input) (lent : ℕ) (n : Node) → i.sheet.nodes ≡ n ∷ [] → listings_of i lent ≡ listing_of i 0 lent
unfolding node_at clockings
only-listing i lent n e = go (clocking n) refl
  where
    go : (v : Formed Clocking) → clocking n ≡ v → listings_of i lent ≡ listing_of i 0 lent
    go deep f = let d = node-deep 0 n [] f in rw (e, d)
    go (formed k) f =
        let d = node-formed 0 n [] k f in
        rw (e, d, append-nil (node_listing (letters_of i.names) 0 (record { node = n; clocking = k })))

pub only-listed : (i : Input) (M : ℕ) (ts : List TagValue) (count from q : ℕ) → times count (node M) ts from ≡ got i.sheet.nodes q → count ≡ 1
    → (lent after : List ℕ) (r : Result ℕ Refusal) → ListingGiven (listing_of i 0 (length lent)) lent after r → ListingGiven (listings_of i (length lent)) lent after r
only-listed i M ts count from q g e lent after r h =
    let o = one-node M ts count from i.sheet.nodes q e g in
    listing-same (listings_of i (length lent)) (listing_of i 0 (length lent)) lent after r (only-listing i (length lent) o.0 o.1) h

-- ---- several
pub all_listed : (letters : ℕ → Letters) (i : Input) (lent after : List ℕ) (r : Result ℕ Refusal) → letters ≡ letters_of i.names → ListingGiven (nodes_listed letters i.sheet.nodes (length lent)) lent after r → ListingGiven (listings_of i (length lent)) lent after r
all_listed letters i lent after r e h = listing-same (listings_of i (length lent)) (nodes_listed letters i.sheet.nodes (length lent)) lent after r (ap (λ (f : ℕ → Letters). nodes_listed f i.sheet.nodes (length lent)) (sym e)) h

-- each item's text of those that are answered
pub lent-each : {A : Type 0} (v : Answer A) (text : A → Letters) (lent : ℕ) → lent_answer (v >>= λ a. accepted (text a)) lent ≡ (v >>= λ a. lent_text (text a) lent)
lent-each (accepted a) text lent = refl
lent-each (refused r) text lent = refl
lent-each (faulty l) text lent = refl

module _ (v : Answer Letters) (aside aside' lent : List ℕ) where
  -- refused
  pub aside-refused : (r : Refusal) → TextStands v aside aside' (Err r) → ListingGiven (lent_answer v (length lent)) lent lent (Err r)
  unfolding TextStands
  aside-refused r h = rw h (record { answer = refl; bytes = refl })

  module _ (m : ℕ) (h : TextStands v aside aside' (Ok m)) where
    put_text : (text : Letters) × (v ≡ accepted text) × PutText text 0 aside m aside'
    unfolding TextStands
    put_text = h

    as-answered : (after : List ℕ) (a : Result ℕ Refusal) → ListingGiven (lent_text put_text.0 (length lent)) lent after a → ListingGiven (lent_answer v (length lent)) lent after a
    as-answered after a g = rw put_text.1 g

    -- put aside, where it has room
    pub aside-lent : m ≤ length aside → (after : List ℕ) (a : Result ℕ Refusal) → ListingGiven (lent_text (take m aside') (length lent)) lent after a → ListingGiven (lent_answer v (length lent)) lent after a
    aside-lent room after a g =
        let p = put_text.2 in
        let text = put_text.0 in
        let w : take m aside' ≡ text = ap (λ (n : ℕ). take n aside') p.long ∙ (ap (take (length text)) (p.bytes ∙ over-front text aside) ∙ over-there text aside (omega (arith, room, p.long))) in
        as-answered after a (subst (λ (t : List ℕ). ListingGiven (lent_text t (length lent)) lent after a) w g)

    -- 12
    pub aside-few : length lent < m → ListingGiven (lent_answer v (length lent)) lent lent (Err (Refusal.Lent m))
    aside-few few =
        let p = put_text.2 in
        let g = lt-leb (length put_text.0) (length lent) (omega (arith, few, p.long)) in
        as-answered lent (Err (Refusal.Lent m)) (rw g (record { answer = ap (λ (x : ℕ). Err (Refusal.Lent x)) p.long; bytes = refl }))

    -- put again, over the lent bytes
    pub put-again : (a : Result ℕ Refusal) (after : List ℕ) → m ≤ length lent → TextStands v lent after a → ListingGiven (lent_answer v (length lent)) lent after a
    unfolding TextStands
    put-again (Err r) after enough s =
        let x : accepted put_text.0 ≡ refused r = sym put_text.1 ∙ s in
        absurd cc
    put-again (Ok q) after enough s =
        let x : accepted s.0 ≡ accepted put_text.0 = sym s.1 ∙ put_text.1 in
        let y : s.0 ≡ put_text.0 = cc in
        let text = put_text.0 in
        let p : PutText text 0 lent q after = rw y at s.2 in
        let g = le-leb (length text) (length lent) (omega (arith, enough, put_text.2.long)) in
        as-answered after (Ok q) (rw g (record { answer = ap Ok p.long; bytes = p.bytes ∙ over-front text lent }))

    -- and it has as many bytes as were measured
    pub put-same : (a : Result ℕ Refusal) (after : List ℕ) → TextStands v lent after a → a ≡ Ok m
    unfolding TextStands
    put-same (Err r) after s =
        let x : accepted put_text.0 ≡ refused r = sym put_text.1 ∙ s in
        absurd cc
    put-same (Ok q) after s =
        let x : accepted s.0 ≡ accepted put_text.0 = sym s.1 ∙ put_text.1 in
        let y : s.0 ≡ put_text.0 = cc in
        ap Ok (s.2.long ∙ (ap length y ∙ sym put_text.2.long))
