-- The sites before row i are listed.
use mathlib.Core.Path.{refl, sym, ◌∙◌}
use Rattle.findings.proofs.Laws.{listed-none, listed_same, listed_more, site-row, no-sites, sites-no, sites-base, sites-more}
use Rattle.findings.proofs.FindingList.list_sites.Goals as goal
use Rattle.findings.proofs.FindingList.list_sites.Goals.{then-is_site+then-not-is_base, then-is_site+else-not-is_base, else-is_site}

pub loop-i-init : goal.loop-i-init
loop-i-init c = listed-none c.args.self.now.words.now _

pub loop-i-preserved : goal.loop-i-preserved
loop-i-preserved c = elim c.if-is_site.branch [
  | then-is_site+then-not-is_base w ↦
      let e = site-row c.args.self.now.words.now _ _ w.clock_at-clock.ensures (sym c.is_site.ensures ∙ w.if-is_site.true) in
      rw w.clocks-is (listed_more c.args.self.now.words.now c.loop-i.i _ _ _ _ (sites-more c.args.self.now.words.now c.loop-i.i _ e refl (sym w.is_base.ensures ∙ w.if-not-is_base.true)) c.loop-i.invariant w.push.ensures)
  | then-is_site+else-not-is_base w ↦
      let e = site-row c.args.self.now.words.now _ _ w.clock_at-clock.ensures (sym c.is_site.ensures ∙ w.if-is_site.true) in
      rw w.clocks-is (listed_same c.args.self.now.words.now c.loop-i.i _ _ (sites-base c.args.self.now.words.now c.loop-i.i _ e refl (sym w.is_base.ensures ∙ w.if-not-is_base.false)) c.loop-i.invariant)
  | else-is_site w ↦ rw w.clocks-is (listed_same c.args.self.now.words.now c.loop-i.i _ _ (sites-no c.args.self.now.words.now c.loop-i.i _ refl (no-sites _ (sym c.is_site.ensures ∙ w.if-is_site.false))) c.loop-i.invariant)
]
