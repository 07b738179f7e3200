-- The sheet in the working tables. Assumes nothing.
use mathlib.Core.Path.{◌≡◌, refl, sym, ◌∙◌, ap}
use mathlib.Core.List.{List}
use Prim.Native.Nat.{ℕ}
use native.Mathlib.Omega.{arith}
use Rattle.definitions.specs.Bytes.{lengths, letters, cut}
use Rattle.definitions.specs.Output.{letters_of}
use Rattle.definitions.specs.Answer.{Input}
use Rattle.spelling.specs.declared.names.Spelling.{Spelling}
use Rattle.spelling.specs.Places.{letters_at}
use Rattle.spelling.proofs.Places.{names-fit}
use Rattle.parts.specs.Answers.{Accepted}
use Rattle.grammar.specs.declared.source.Source.{Source}
use Rattle.sheet.specs.Answers.{TokensRead}
use Rattle.query.specs.Standing.{Standing}

module _ {b : List ℕ} (a : Accepted b) (source : Source) (i : Input) (z : TokensRead b source i) where
  -- the lengths that are lent cut the letters that are lent into the names
  pub cut-names : (ls ts : List ℕ) → ls ≡ lengths b → ts ≡ letters b → i.names ≡ cut ls ts
  cut-names ls ts e f = rw (e, f) z.names

  pub standing : (names : Spelling) → letters_at names.starts.now (letters b) ≡ letters_of (cut (lengths b) (letters b)) → names.letters.now ≡ letters b → Standing names source i
  standing names e f =
      record {
        named = ap (letters_at names.starts.now) f ∙ (e ∙ ap letters_of (sym z.names));
        few-letters = (names-fit a (lengths b) names.letters.now refl f).2;
        few-names = omega (arith, z.count, a.sized.names);
        few-tokens = z.few;
        tree = z.tree;
      }
