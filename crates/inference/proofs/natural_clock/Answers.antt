-- `inference::natural_clock` meets its contract: by what the walk came to.
-- Assumes nothing.
use mathlib.Core.Path.{sym}
use Rattle.inference.proofs.NaturalLaws.{found-on, found-free}
use Rattle.inference.proofs.natural_clock.Goals as goal

pub returns-in-On : goal.returns-in-On
returns-in-On c = λ e q clocks g a. sym (found-on _ _ _ c.in_ok-found-in-NoMore.was c.in-On.is (c.found_at.ensures e q clocks g a))

pub returns-in-Free : goal.returns-in-Free
returns-in-Free c = λ e q clocks g a. let f = found-free _ _ _ c.in_ok-found-in-NoMore.was c.in-Free.is (c.found_at.ensures e q clocks g a) in sym f.0
