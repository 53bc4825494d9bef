use Rattle.redis_program.proofs.schedule.play_schedule.Given as goal

abbrev pub ghost-play_lines : goal.ghost-play_lines
ghost-play_lines g a = a.world.now.links.limits
