use Rattle.sign_many.proofs.work.Work.+sign_layers.Given as goal

abbrev pub decreases-sign_layers : goal.decreases-sign_layers
decreases-sign_layers l = l.layers
