mod Readable
