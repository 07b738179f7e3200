-- The text of a fault, refusal by refusal. Assumes nothing.
use Prim.Native.Nat.{ℕ, zero, suc, ◌+◌}
use mathlib.Core.Path.{◌≡◌, refl, sym, ap, ◌∙◌}
use mathlib.Core.List.{List, [], ◌∷◌}
use mathlib.Core.Bool.{Bool, true, false}
use mathlib.Core.Option.{Option, none}
use lib.ListN.{length, get_elem?}
use Rattle.std.proofs.Common.{Result, Ok, Err}
use Rattle.definitions.specs.declared.Refusal.{Refusal}
use Rattle.definitions.specs.Lists.{Letters}
use Rattle.definitions.specs.Tree.{Node}
use Rattle.definitions.specs.InferClocks.{Formed, deep, formed, Clocking, clocking, NodeFault}
use Rattle.definitions.specs.Refusals.{Answer, accepted, refused, ◌>>=◌}
use Rattle.definitions.specs.Output.{letters_of, ClockedNode, node_faults}
use Rattle.definitions.specs.Texts.{fault_text}
use Rattle.definitions.specs.Answer.{Input, clockings, item_at}
use Rattle.findings.specs.Value.{fault_of, found_of}
use Rattle.infer_clocks.specs.Clocked.{is_deep, Deeply}
use Rattle.lines.specs.Lending.{lent_text, Gives}
use Rattle.query.specs.declared.FoundNode.{FoundNode}
use Rattle.query.specs.Standing.{first_from, FoundAt, NodeFound}
use Rattle.query.proofs.Nodes.{found-at, first-deep, first-behind, first-there}
use Rattle.index.specs.declared.Index.{Index}
use Rattle.index.specs.Indexed.{Indexed}
use Rattle.findings.specs.declared.Found as value
use Rattle.std.specs.Prelude as rust
use Rattle.std.specs.Prelude.{None, Some, ok_or}
use Rattle.workspace.specs.declared.Working.{Working}
use Rattle.first_faults.specs.Faults.{RoomIn}
use Rattle.listings.specs.Answers.{ListingGiven}
use Rattle.listings.proofs.Given.{given}
use Rattle.fault_text.specs.Texts.{text_in, text_from}

given-refused : (v : Answer Letters) (lent : List ℕ) (x : Refusal) → v ≡ refused x → ListingGiven v lent lent (Err x)
given-refused v lent x e = rw e (record { answer = refl; bytes = refl })

-- the text of item j of some faults
text-item : (names : List Letters) (l : List NodeFault) (j lent : ℕ) → (item_at l j >>= λ f. lent_text (fault_text (letters_of names) f.fault) lent) ≡ text_in names (get_elem? l j) lent
text-item names [] j lent = refl
text-item names (f ∷ l) zero lent = refl
text-item names (f ∷ l) (suc j) lent = text-item names l j lent

-- ---- the text of fault j of a node that was asked for
module _ (r : Input) (v : Answer ClockedNode) (j : ℕ) (lent : List ℕ) where
  -- 8 or 9
  pub text-turned : (x : Refusal) → v ≡ refused x → ListingGiven (text_from r v j (length lent)) lent lent (Err x)
  text-turned x e = given-refused (text_from r v j (length lent)) lent x (rw e)

  text-known : (n : ClockedNode) (o : rust.Option value.Found) → v ≡ accepted n → found_of o ≡ get_elem? (node_faults r.names r.sheet n) j
      → (after : List ℕ) (y : Result ℕ Refusal) → ListingGiven (text_in r.names (found_of o) (length lent)) lent after y → ListingGiven (text_from r v j (length lent)) lent after y
  text-known n o e f after y g =
      let s : text_from r v j (length lent) ≡ text_in r.names (found_of o) (length lent) = rw e (text-item r.names (node_faults r.names r.sheet n) j (length lent) ∙ ap (λ (u : Option NodeFault). text_in r.names u (length lent)) (sym f)) in
      rw s g

-- of the node that is asked for
pub text-as : (r : Input) (v w : Answer ClockedNode) → v ≡ w → (j : ℕ) (lent after : List ℕ) (y : Result ℕ Refusal) → ListingGiven (text_from r w j (length lent)) lent after y → ListingGiven (text_from r v j (length lent)) lent after y
text-as r v w e j lent after y g = rw e g

-- of node k, which is n, before other nodes
module _ (r : Input) (k j : ℕ) (lent : List ℕ) (n : Node) (ns : List Node) (b : Bool) (e : b ≡ is_deep (clocking n)) where
  -- 9 at it
  pub text-deep : b ≡ true → ListingGiven (text_from r (first_from k (n ∷ ns)) j (length lent)) lent lent (Err (Refusal.Deep k))
  text-deep f = text-turned r (first_from k (n ∷ ns)) j lent (Refusal.Deep k) (go (clocking n) refl (sym e ∙ f))
    where
      go : (v : Formed Clocking) → clocking n ≡ v → is_deep v ≡ true → first_from k (n ∷ ns) ≡ refused (Refusal.Deep k)
      go deep h t = first-deep k n ns h
      go (formed c) h t = absurd cc

  module _ (f : b ≡ false) (q : ℕ) (d : Result ℕ Refusal) (D : Deeply q d (clockings (k + 1) ns)) where
    this : (c : Clocking) × (clocking n ≡ formed c)
    this = go (clocking n) refl (sym e ∙ f)
      where
        go : (v : Formed Clocking) → clocking n ≡ v → is_deep v ≡ false → (c : Clocking) × (clocking n ≡ formed c)
        go deep h t = absurd cc
        go (formed c) h t = (c, h)

    -- 9 behind it
    pub text-behind : (y : Refusal) → d ≡ Err y → ListingGiven (text_from r (first_from k (n ∷ ns)) j (length lent)) lent lent (Err y)
    unfolding Deeply
    text-behind y g =
        let x : Deeply q (Err y) (clockings (k + 1) ns) = rw g at D in
        text-turned r (first_from k (n ∷ ns)) j lent y (first-behind k n ns this.0 this.1 y x)

    pub text-there : (p : ℕ) → d ≡ Ok p → (o : rust.Option value.Found) → ((c : Clocking) → clocking n ≡ formed c → found_of o ≡ get_elem? (node_faults r.names r.sheet (record { node = n; clocking = c })) j)
        → (after : List ℕ) (y : Result ℕ Refusal) → ListingGiven (text_in r.names (found_of o) (length lent)) lent after y → ListingGiven (text_from r (first_from k (n ∷ ns)) j (length lent)) lent after y
    unfolding Deeply
    text-there p g o F after y h =
        let x : Deeply q (Ok p) (clockings (k + 1) ns) = rw g at D in
        text-known r (first_from k (n ∷ ns)) j lent (record { node = n; clocking = this.0 }) o (first-there k n ns this.0 this.1 x.1 x.2) (F this.0 this.1) after y h

-- ---- the text of a fault that was found
module _ (names : List Letters) (letters : ℕ → Letters) (e : letters ≡ letters_of names) (lent after : List ℕ) where
  -- 8, no such fault
  pub text-none : ListingGiven (text_in names (found_of None) (length lent)) lent lent (Err Refusal.Missing)
  text-none = given-refused (text_in names none (length lent)) lent Refusal.Missing refl

  pub text-given : (f : value.Found) (r : Result ℕ Refusal) → Gives (fault_text letters (fault_of f.fault)) lent r after → ListingGiven (text_in names (found_of (Some f)) (length lent)) lent after r
  text-given f r g =
      let said : text_in names (found_of (Some f)) (length lent) ≡ lent_text (fault_text letters (fault_of f.fault)) (length lent) = rw e in
      rw said (given (fault_text letters (fault_of f.fault)) lent after r g)

  -- what is refused where there is none
  pub text-missing : (o : rust.Option value.Found) (x : Refusal) (r : Result ℕ Refusal) → o ≡ None → ◌≡◌ {A = Result value.Found Refusal} (Err x) (ok_or o Refusal.Missing) → r ≡ Err x → ListingGiven (text_in names (found_of o) (length lent)) lent lent r
  text-missing None x r h v g = let y : x ≡ Refusal.Missing = cc in rw (g, y) text-none
  text-missing (Some f) x r h v g = absurd cc

-- ---- what is known behind the search for node k: the sheet is indexed, what was found, and the tables keep their room
pub record Sought (index : Index) (i : Input) (k : ℕ) (r : Result FoundNode Refusal) (w : Working) : Type 0 where
  pub indexed : Indexed index i
  pub found : NodeFound index.source i k r
  pub room : RoomIn index w

-- the node, where it was found
pub node-of : {index : Index} {i : Input} {k : ℕ} {r : Result FoundNode Refusal} {w : Working} (f : FoundNode) → Sought index i k r w → r ≡ Ok f → FoundAt index.source i k f
node-of {index} {i} {k} f z e = found-at index.source i k f (rw e at z.found)
