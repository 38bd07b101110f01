mod FreeWords
mod OneFile
