use Rattle.flash_tree.proofs.law.a_sound_flash_answers_its_tree.Goals as goal

pub returns : goal.returns
returns c = λ g flash spare objects sound. (sound.volume, sound.shows, sound.room)
