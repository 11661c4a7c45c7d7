-- The call is of this countdown and this pass.
use Rattle.pac_countdown.proofs.countdown.Countdown.look.Given as goal

abbrev pub ghosts-look_as : goal.ghosts-look_as
ghosts-look_as a = record { agenda = a.self.now.agenda; number = a.pass.now.number; from = 0 }
